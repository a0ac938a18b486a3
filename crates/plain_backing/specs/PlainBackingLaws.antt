-- What a backing in memory always keeps.
use Rattle.std.proofs.Common.{arith}
use Rattle.plain_backing.specs.declared.backing.PlainBacking.{PlainBacking}
use Rattle.fs_model.specs.Backing.{IsSmall}
use Rattle.plain_backing.specs.PlainBacking.{backing_state_of}
use Rattle.fs_model.specs.Proper.{IsProper}

-- its numbers are small, whatever its tree is
pub small_of : (b : PlainBacking) → IsProper (backing_state_of b).tree → IsSmall (backing_state_of b).space
small_of b proper = record { used = b.few_bytes; held = omega arith; credits = b.few_credits; weight = b.light }
