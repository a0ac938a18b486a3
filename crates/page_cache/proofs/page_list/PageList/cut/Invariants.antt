use Rattle.page_cache.proofs.Turning.{TurnedSoFar}
use Rattle.page_cache.proofs.page_list.PageList.cut.Given as goal

-- the pages that were looked at stand in front, without those that are cut
abbrev pub invariant-loop-left : goal.invariant-loop-left
invariant-loop-left g l = TurnedSoFar l.fn.self l.self l.ino l.from l.left l.gone

abbrev pub decreases-loop-left : goal.decreases-loop-left
decreases-loop-left g l = l.left
