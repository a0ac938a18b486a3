use Rattle.std.proofs.Common.{[]}
use Rattle.script_text.specs.Words.{Path, Target}
use Rattle.script_text.proofs.Sentences.{split, uncut}
use Rattle.script_text.proofs.arguments.path_and_target.Goals as goal

pub returns-in_default-clause-none : goal.returns-in_default-clause-none
returns-in_default-clause-none c = λ path target h. uncut (Path path) (Target target) [] c.args.words.now c.in_default.ensures.none h

pub returns-in_default-2-clause-none : goal.returns-in_default-2-clause-none
returns-in_default-2-clause-none c = λ path target h.
    let s = split (Path path) (Target target) [] c.args.words.now c.in-Some.first.now c.in-Some.rest.now tt c.in-Some.ensures.first c.in-Some.ensures.found h in
    let none = rw c.in_default-2.is at c.in_ok-path.ensures.none in none path s.0

pub returns-in_default-3-clause-none : goal.returns-in_default-3-clause-none
returns-in_default-3-clause-none c = λ path target h.
    let s = split (Path path) (Target target) [] c.args.words.now c.in-Some.first.now c.in-Some.rest.now tt c.in-Some.ensures.first c.in-Some.ensures.found h in
    let none = rw c.in_default-3.is at c.in_ok-target.ensures.none in none target s.1
