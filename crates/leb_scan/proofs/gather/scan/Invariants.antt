use Rattle.std.proofs.Common.{◌-◌, ◌≤◌, length}
use Rattle.leb_scan.specs.Gathered.{IsGathered}
use Rattle.leb_scan.proofs.gather.scan.Given as goal

abbrev pub invariant-loop-found : goal.invariant-loop-found
invariant-loop-found l = IsGathered l.leb l.from l.scanner.place l.nodes.items × (l.scanner.place ≤ length l.leb)

abbrev pub decreases-loop-found : goal.decreases-loop-found
decreases-loop-found l = length l.leb - l.scanner.place
