use Rattle.std.proofs.Common.{refl, rules, sym}
use Rattle.std.specs.Prelude.{codes}
use Rattle.text_lines.specs.Lines.{ended}
use Rattle.std.proofs.lemmas.Bool.{false≢true}
use Rattle.script_run.proofs.session.mount.Goals as goal

pub returns-clause-part : goal.returns-clause-part
returns-clause-part c = (ended (codes "mount rw"), (refl, refl), search (rules, c.as_slice.ensures, c.in_ok-extend_from_slice.ensures.items))

pub returns-clause-session : goal.returns-clause-session
returns-clause-session c =
    let was = c.requires.session in
    record { geometry = was.geometry; steady = was.steady; bare = λ none. absurd (false≢true (sym none)) }

pub returns-clause-few : goal.returns-clause-few
returns-clause-few c = refl
