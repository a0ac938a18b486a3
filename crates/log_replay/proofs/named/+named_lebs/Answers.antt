use Rattle.std.proofs.Common.{List, map, sym, subst}
use Rattle.journal_scan.specs.Places.{named_by}
use Rattle.journal_scan.specs.declared.bud_text.BudText.{BudText}
use Rattle.log_replay.specs.Named.{IsNamed}
use Rattle.log_replay.proofs.References.{named_on}
use Rattle.log_replay.proofs.named.+named_lebs.Goals as goal

pub returns : goal.returns
returns t c =
    subst (λ (buds : List BudText). IsNamed (map named_by buds) c.name_leb.new.named) (sym c.in-Some.ensures.cases.0)
    (named_on c.in-Some.first.now (map named_by c.in-Some.rest.now) c.in_ok-named.named c.name_leb.new.named c.in_ok-named.ensures c.in_ok-name_leb.ensures)
