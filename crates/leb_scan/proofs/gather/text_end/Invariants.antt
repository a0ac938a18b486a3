use Rattle.std.proofs.Common.{List, ◌-◌, ◌≤◌, length}
use Rattle.leb_scan.specs.declared.found.Found.{Found}
use Rattle.leb_scan.specs.Gathered.{IsGathered}
use Rattle.leb_scan.proofs.gather.text_end.Given as goal

abbrev pub invariant-loop-found : goal.invariant-loop-found
invariant-loop-found l = ((nodes : List Found) × IsGathered l.leb l.from l.scanner.place nodes) × (l.scanner.place ≤ length l.leb)

abbrev pub decreases-loop-found : goal.decreases-loop-found
decreases-loop-found l = length l.leb - l.scanner.place
