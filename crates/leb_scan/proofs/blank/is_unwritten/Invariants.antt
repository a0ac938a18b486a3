use Rattle.std.proofs.Common.{◌≡◌, length}
use Rattle.ubifs_base.specs.NodeLaws.{IsBytes}
use Rattle.leb_scan.specs.Text.{is_blank}
use Rattle.leb_scan.proofs.blank.is_unwritten.Given as goal

abbrev pub invariant-loop-rest : goal.invariant-loop-rest
invariant-loop-rest l = IsBytes l.rest × (is_blank l.rest ≡ is_blank l.bytes)

abbrev pub decreases-loop-rest : goal.decreases-loop-rest
decreases-loop-rest l = length l.rest
