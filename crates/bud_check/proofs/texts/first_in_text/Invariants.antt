use Rattle.std.proofs.Common.{List, ◌-◌, ◌≤◌, length}
use Rattle.ubifs_base.specs.NodeLaws.{IsBytes}
use Rattle.leb_scan.specs.declared.found.Found.{Found}
use Rattle.leb_scan.specs.Gathered.{IsGathered}
use Rattle.bud_check.specs.Findings.{IsFirstFound}
use Rattle.bud_check.proofs.TextFirsts.{IsWrongAmong}
use Rattle.bud_check.proofs.texts.first_in_text.Given as goal

-- the nodes so far, and what is wrong first at one of them
abbrev pub invariant-loop-found : goal.invariant-loop-found
invariant-loop-found l = ((nodes : List Found) × IsGathered l.bud.bytes l.bud.from l.scanner.place nodes × IsFirstFound (IsWrongAmong l.bud.bytes l.bud.lnum nodes) l.first) × (l.scanner.place ≤ length l.bud.bytes) × IsBytes l.bud.bytes

abbrev pub decreases-loop-found : goal.decreases-loop-found
decreases-loop-found l = length l.bud.bytes - l.scanner.place
