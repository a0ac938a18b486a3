-- Units of a LEB that were written.
use Rattle.std.specs.Prelude.{◌≡◌, ℕ, ◌+◌, ◌≤◌, List, [], ◌++◌, length, take}
use Rattle.ubi_volume.specs.Volume.{VolumeState, Only}
use Rattle.write_buffer.specs.Buffer.{Buffered}

-- these bytes stand in the LEB behind what stood in front of them, and a cut leaves what it holds
pub record IsPut (old new : VolumeState) (lnum offs : ℕ) (bytes : List ℕ) : Type 0 where
  pub text : take (offs + length bytes) (new.holds lnum) ≡ take offs (old.holds lnum) ++ bytes
  pub written : new.written lnum ≤ offs + length bytes
  pub settled : Only (new.holds lnum) (new.left_now lnum)

-- the waiting unit was written with these bytes at its end
pub record IsFilled (old new : VolumeState) (before after : Buffered) (lnum : ℕ) (bytes : List ℕ) : Type 0 where
  pub is : after ≡ record { unit = before.unit; leb = before.leb; place = before.place + before.unit; tail = [] }
  pub put_there : IsPut old new lnum before.place (before.tail ++ bytes)
