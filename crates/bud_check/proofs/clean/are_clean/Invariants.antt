use Rattle.std.proofs.Common.{length}
use Rattle.std.specs.List.{AllByRecursion}
use Rattle.journal_scan.specs.Journal.{IsReadable}
use Rattle.bud_check.proofs.CleanBuds.{AreCleanSoFar}
use Rattle.bud_check.proofs.clean.are_clean.Given as goal

-- what is left tells whether any bud holds a node
abbrev pub invariant-reading : goal.invariant-reading
invariant-reading l = AllByRecursion IsReadable l.left × AreCleanSoFar l.left l.fn.texts

abbrev pub decreases-reading : goal.decreases-reading
decreases-reading l = length l.left
