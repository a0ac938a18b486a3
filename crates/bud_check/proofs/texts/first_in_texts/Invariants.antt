use Rattle.std.proofs.Common.{◌≡◌, ◌++◌, List, length}
use Rattle.std.specs.List.{AllByRecursion}
use Rattle.journal_scan.specs.Journal.{IsReadable}
use Rattle.journal_scan.specs.declared.bud_text.BudText.{BudText}
use Rattle.bud_check.specs.Findings.{IsFirstFound, IsWrongTexts}
use Rattle.bud_check.proofs.texts.first_in_texts.Given as goal

-- the texts so far, and what is wrong first in one of them
abbrev pub invariant-reading : goal.invariant-reading
invariant-reading l = AllByRecursion IsReadable l.left × (done : List BudText) × (done ++ l.left ≡ l.texts) × IsFirstFound (IsWrongTexts done) l.first

abbrev pub decreases-reading : goal.decreases-reading
decreases-reading l = length l.left
