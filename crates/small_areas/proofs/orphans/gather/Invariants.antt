use Rattle.std.proofs.Common.{◌-◌, ◌≤◌, length}
use Rattle.small_areas.proofs.OrphanLists.{IsGatheredTo}
use Rattle.small_areas.proofs.orphans.gather.Given as goal

-- the numbers of the nodes so far
abbrev pub invariant-loop-found : goal.invariant-loop-found
invariant-loop-found l = IsGatheredTo l.leb l.scanner.place l.fn.inos.items l.inos.items × (l.scanner.place ≤ length l.leb)

abbrev pub decreases-loop-found : goal.decreases-loop-found
decreases-loop-found l = length l.leb - l.scanner.place
