use Rattle.std.proofs.Common.{List, ℕ, refl, subst}
use Rattle.bud_log.specs.Seen.{IsPassed}
use Rattle.bud_log.specs.declared.head_at.HeadAt.{HeadAt}
use Rattle.bud_log.specs.RingRuns.{passed_of}
use Rattle.bud_log.proofs.reading.read_later.Goals as goal

pub returns-then-not-is_later-clause-passed : goal.returns-then-not-is_later-clause-passed
returns-then-not-is_later-clause-passed g c =
    let P : List ℕ → Type 0 = λ leb. IsPassed leb c.args.lnum c.args.number in
    (subst P c.in_ok-read_leb.ensures.read (passed_of c.read_leb.new.out c.args.lnum c.args.number c.see-seen.result c.is_later.result c.see-seen.ensures c.is_later.ensures c.if-not-is_later.true), refl {A = List HeadAt})
