use Rattle.std.proofs.Common.{◌∙◌, sym, refl, subst, ℕ, List}
use Rattle.bud_log.specs.Writing.{IsOlder}
use Rattle.journal_check.proofs.Added.{older_of}
use Rattle.journal_check.proofs.reading.read_later.Goals as goal

pub returns-then-not-is_later-clause-passed : goal.returns-then-not-is_later-clause-passed
returns-then-not-is_later-clause-passed g c =
    let P : List ℕ → Type 0 = λ leb. IsOlder c.args.number c.args.lnum leb in
    λ _. (subst P c.in_ok-read_leb.ensures.read (older_of c.read_leb.new.out c.args.lnum c.args.number c.see-seen.result c.see-seen.ensures (sym c.is_later.ensures ∙ c.if-not-is_later.true)), refl)
