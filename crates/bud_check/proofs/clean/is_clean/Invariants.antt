use Rattle.std.proofs.Common.{◌≡◌, List, ◌-◌, ◌≤◌, length}
use Rattle.std.specs.List.{list_all}
use Rattle.ubifs_base.specs.NodeLaws.{IsBytes}
use Rattle.leb_scan.specs.Gathered.{IsGathered}
use Rattle.leb_scan.specs.declared.found.Found.{Found}
use Rattle.bud_check.proofs.CleanBuds.{is_pad}
use Rattle.bud_check.proofs.clean.is_clean.Given as goal

-- the nodes so far, and whether all are padding
abbrev pub invariant-loop-found : goal.invariant-loop-found
invariant-loop-found l = ((nodes : List Found) × IsGathered l.bud.bytes l.bud.from l.scanner.place nodes × (l.clean ≡ list_all is_pad nodes)) × (l.scanner.place ≤ length l.bud.bytes) × IsBytes l.bud.bytes

abbrev pub decreases-loop-found : goal.decreases-loop-found
decreases-loop-found l = length l.bud.bytes - l.scanner.place
