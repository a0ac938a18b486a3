use Rattle.std.proofs.Common.{◌≡◌, List, ◌++◌, ◌-◌, ◌≤◌, length}
use Rattle.leb_scan.specs.declared.found.Found.{Found}
use Rattle.leb_scan.specs.Gathered.{IsGathered}
use Rattle.image_dump.specs.Listing.{node_lines}
use Rattle.image_dump.proofs.leb.push_text.Given as goal

-- the nodes so far have their lines
abbrev pub invariant-loop-found : goal.invariant-loop-found
invariant-loop-found l =
    ((nodes : List Found) × IsGathered l.leb 0 l.scanner.place nodes × (l.out.items ≡ l.initial.out.items ++ node_lines nodes))
    × (l.scanner.place ≤ length l.leb)

abbrev pub decreases-loop-found : goal.decreases-loop-found
decreases-loop-found l = length l.leb - l.scanner.place
