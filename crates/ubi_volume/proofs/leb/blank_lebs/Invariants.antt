use Rattle.std.proofs.Common.{◌≡◌, length}
use Rattle.std.specs.Prelude.{All}
use Rattle.ubi_volume.specs.Lebs.{IsBlankLeb}
use Rattle.ubi_volume.proofs.leb.blank_lebs.Given as goal

-- the LEBs so far are blank
abbrev pub invariant-loop-i : goal.invariant-loop-i
invariant-loop-i l = (length l.lebs.items ≡ l.i) × All (IsBlankLeb l.size) l.lebs.items
