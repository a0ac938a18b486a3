use Rattle.std.proofs.Common.{List, ◌∷◌, sym, subst}
use Rattle.journal_scan.specs.declared.bud_text.BudText.{BudText}
use Rattle.journal_scan.specs.Gathered.{AreGathered}
use Rattle.journal_scan.proofs.Gathering.{gathered_more}
use Rattle.journal_scan.proofs.read.+gather.Goals as goal

pub returns : goal.returns
returns t c =
    let first = c.in_ok-gather_one.ensures in
    let more = c.in_ok-gather.ensures in
    let P : List BudText → Type 0 = λ buds. AreGathered buds (first.0 ∷ more.0) c.args.read.now c.gather.new.read in (
      first.0 ∷ more.0,
      subst P (sym c.in-Some.ensures.cases.0) (gathered_more c.in-Some.first.now c.in-Some.rest.now first.0 more.0 c.args.read.now c.gather_one.new.read c.gather.new.read first.1 more.1),
    )
