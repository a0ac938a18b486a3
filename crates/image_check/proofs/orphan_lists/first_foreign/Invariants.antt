use Rattle.std.proofs.Common.{List, ◌-◌, ◌≤◌, length}
use Rattle.leb_scan.specs.declared.found.Found.{Found}
use Rattle.leb_scan.specs.Gathered.{IsGathered}
use Rattle.image_check.proofs.ForeignNodes.{IsFirstAmong}
use Rattle.image_check.proofs.orphan_lists.first_foreign.Given as goal

-- the nodes so far, and which of them was found first
abbrev pub invariant-loop-found : goal.invariant-loop-found
invariant-loop-found l = ((nodes : List Found) × IsGathered l.leb 0 l.scanner.place nodes × IsFirstAmong nodes l.first) × (l.scanner.place ≤ length l.leb)

abbrev pub decreases-loop-found : goal.decreases-loop-found
decreases-loop-found l = length l.leb - l.scanner.place
