use Rattle.std.proofs.Common.{[]}
use Rattle.script_text.specs.Words.{Path}
use Rattle.script_text.proofs.Sentences.{split, uncut}
use Rattle.script_text.proofs.arguments.two_paths.Goals as goal

pub returns-in_default-clause-none : goal.returns-in_default-clause-none
returns-in_default-clause-none c = λ old new h. uncut (Path old) (Path new) [] c.args.words.now c.in_default.ensures.none h

pub returns-in_default-2-clause-none : goal.returns-in_default-2-clause-none
returns-in_default-2-clause-none c = λ old new h.
    let s = split (Path old) (Path new) [] c.args.words.now c.in-Some.first.now c.in-Some.rest.now tt c.in-Some.ensures.first c.in-Some.ensures.found h in
    let none = rw c.in_default-2.is at c.in_ok-old.ensures.none in none old s.0

pub returns-in_default-3-clause-none : goal.returns-in_default-3-clause-none
returns-in_default-3-clause-none c = λ old new h.
    let s = split (Path old) (Path new) [] c.args.words.now c.in-Some.first.now c.in-Some.rest.now tt c.in-Some.ensures.first c.in-Some.ensures.found h in
    let none = rw c.in_default-3.is at c.in_ok-new.ensures.none in none new s.1
