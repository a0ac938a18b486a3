use Rattle.std.proofs.Common.{List, ◌-◌, ◌≤◌, length}
use Rattle.leb_scan.specs.declared.found.Found.{Found}
use Rattle.leb_scan.specs.Gathered.{IsGathered}
use Rattle.bud_log.specs.References.{IsNamedSoFar}
use Rattle.bud_log.proofs.buds.name_buds.Given as goal

-- the nodes so far, and the references among them, which were named
abbrev pub invariant-loop-found : goal.invariant-loop-found
invariant-loop-found l = ((nodes : List Found) × IsGathered l.leb 0 l.scanner.place nodes × IsNamedSoFar l.leb nodes l.fn.buds.items l.buds.items) × (l.scanner.place ≤ length l.leb)

abbrev pub decreases-loop-found : goal.decreases-loop-found
decreases-loop-found l = length l.leb - l.scanner.place
