use Rattle.std.proofs.Common.{[], ◌-◌, ◌≤◌, length}
use Rattle.leb_scan.specs.Gathered.{IsGathered}
use Rattle.leb_scan.proofs.scanner.next_node.Given as goal

abbrev pub invariant-loop-item : goal.invariant-loop-item
invariant-loop-item l = IsGathered l.leb l.from l.place [] × (l.from ≤ l.place) × (l.place ≤ length l.leb)

abbrev pub decreases-loop-item : goal.decreases-loop-item
decreases-loop-item l = length l.leb - l.place
