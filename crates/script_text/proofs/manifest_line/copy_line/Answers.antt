use Rattle.std.proofs.Common.{[], ◌∷◌}
use Rattle.script_text.specs.Words.{FileName, Mode, Path}
use Rattle.script_text.proofs.Made.{copy_none}
use Rattle.script_text.proofs.Sentences.{split, uncut}
use Rattle.script_text.proofs.manifest_line.copy_line.Goals as goal

pub returns-in_default-clause-none : goal.returns-in_default-clause-none
returns-in_default-clause-none c = copy_none c.args.words.now (λ path mode name h. uncut (Path path) (Mode mode) (FileName name ∷ []) c.args.words.now c.in_default.ensures.none h)

pub returns-in_default-2-clause-none : goal.returns-in_default-2-clause-none
returns-in_default-2-clause-none c = copy_none c.args.words.now (λ path mode name h.
    let s = split (Path path) (Mode mode) (FileName name ∷ []) c.args.words.now c.in-Some.first.now c.in-Some.rest.now tt c.in-Some.ensures.first c.in-Some.ensures.found h in
    let none = rw c.in_default-2.is at c.in_ok-path.ensures.none in none path s.0)

pub returns-in_default-mode_and_name-clause-none : goal.returns-in_default-mode_and_name-clause-none
returns-in_default-mode_and_name-clause-none c = copy_none c.args.words.now (λ path mode name h.
    let s = split (Path path) (Mode mode) (FileName name ∷ []) c.args.words.now c.in-Some.first.now c.in-Some.rest.now tt c.in-Some.ensures.first c.in-Some.ensures.found h in
    let none = c.in_default-mode_and_name.ensures.none in none mode name s.1)
