use Rattle.std.proofs.Common.{List, ◌-◌, ◌≤◌, length}
use Rattle.ubifs_base.specs.RawOf.{raw_of}
use Rattle.leb_scan.specs.declared.found.Found.{Found}
use Rattle.leb_scan.specs.Gathered.{IsGathered}
use Rattle.journal_check.proofs.TakenReferences.{AreTakenSoFar}
use Rattle.journal_check.proofs.references.take_references.Given as goal

-- the nodes so far, the references among them, and the first that is misnamed
abbrev pub invariant-loop-found : goal.invariant-loop-found
invariant-loop-found l =
    ((nodes : List Found) × IsGathered l.leb 0 l.scanner.place nodes × AreTakenSoFar (raw_of l.geometry) l.leb l.lnum nodes l.fn.references.items l.references.items l.first) × (l.scanner.place ≤ length l.leb)

abbrev pub decreases-loop-found : goal.decreases-loop-found
decreases-loop-found l = length l.leb - l.scanner.place
