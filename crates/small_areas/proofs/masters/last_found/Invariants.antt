use Rattle.std.proofs.Common.{List, ◌-◌, ◌≤◌, length}
use Rattle.leb_scan.specs.declared.found.Found.{Found}
use Rattle.leb_scan.specs.Gathered.{IsGathered}
use Rattle.small_areas.proofs.LastMaster.{IsSeen}
use Rattle.small_areas.proofs.masters.last_found.Given as goal

-- the nodes so far, and the last master of them
abbrev pub invariant-loop-found : goal.invariant-loop-found
invariant-loop-found l = ((nodes : List Found) × IsGathered l.leb 0 l.scanner.place nodes × IsSeen nodes l.last) × (l.scanner.place ≤ length l.leb)

abbrev pub decreases-loop-found : goal.decreases-loop-found
decreases-loop-found l = length l.leb - l.scanner.place
