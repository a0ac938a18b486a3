use Rattle.std.proofs.Common.{[]}
use Rattle.script_text.specs.Words.{Mode, Path}
use Rattle.script_text.proofs.Sentences.{split, uncut}
use Rattle.script_text.proofs.arguments.path_and_mode.Goals as goal

pub returns-in_default-clause-none : goal.returns-in_default-clause-none
returns-in_default-clause-none c = λ path mode h. uncut (Path path) (Mode mode) [] c.args.words.now c.in_default.ensures.none h

pub returns-in_default-2-clause-none : goal.returns-in_default-2-clause-none
returns-in_default-2-clause-none c = λ path mode h.
    let s = split (Path path) (Mode mode) [] c.args.words.now c.in-Some.first.now c.in-Some.rest.now tt c.in-Some.ensures.first c.in-Some.ensures.found h in
    let none = rw c.in_default-2.is at c.in_ok-path.ensures.none in none path s.0

pub returns-in_default-mode_word-clause-none : goal.returns-in_default-mode_word-clause-none
returns-in_default-mode_word-clause-none c = λ path mode h.
    let s = split (Path path) (Mode mode) [] c.args.words.now c.in-Some.first.now c.in-Some.rest.now tt c.in-Some.ensures.first c.in-Some.ensures.found h in
    let none = c.in_default-mode_word.ensures.none in none mode s.1
