use Rattle.journal_scan.proofs.Whole.{with_first, with_part}
use Rattle.journal_scan.proofs.laws.groups_are_whole.Goals as goal

pub returns-clause-part : goal.returns-clause-part
returns-clause-part c = with_part

pub returns-clause-first : goal.returns-clause-first
returns-clause-first c = with_first
