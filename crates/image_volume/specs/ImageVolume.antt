-- An image's bytes as a volume that is only read.
use Rattle.std.specs.Prelude.{◌≡◌, ◌≢◌, ℕ, ◌+◌, ◌*◌, ◌==◌, Bool, false, nat_lt, if◌then◌else◌, List, [], length, Option, Some, None, unwrap_or, Result, Err, IsOk}
use Rattle.ubi_volume.specs.Arming.{one_more}
use Rattle.ubi_volume.specs.Loading.{leb_of, IsShort, IsLong}
use Rattle.ubi_volume.specs.Volume.{VolumeState}
use Rattle.ubi_volume.specs.declared.fault.LoadFault.{LoadFault}
use Rattle.ubi_volume.specs.declared.fault.LoadFault.TheVariants.{Memory, Short, Long}
use Rattle.ubi_volume.specs.declared.fault.VolFault.{VolFault}
use Rattle.ubi_volume.specs.declared.fault.VolFault.TheVariants.{Failed}
use Rattle.ubi_volume.specs.declared.mem_volume.VolShape.{VolShape}
use Rattle.image_volume.specs.Written.{written_end}
use Rattle.image_volume.specs.declared.image_volume.ImageVolume.{ImageVolume}
use Rattle.image_volume.specs.declared.refusals.Refusals.{Refusals}

-- the bytes of a LEB, and none of one that isn't there
abbrev pub leb_held : VolShape → List ℕ → ℕ → List ℕ
leb_held shape image lnum = if nat_lt lnum shape.leb_cnt then leb_of shape.leb_size image lnum else []

-- whether this is the LEB of the first call that was refused
abbrev pub is_first : Option ℕ → ℕ → Bool
is_first None lnum = false
is_first (Some first) lnum = first == lnum

-- How much of a LEB isn't open for writing: what counts as written, and of the LEB of the first refused call more than all. So a call
-- that keeps all was refused nothing.
abbrev pub closed_to : VolShape → List ℕ → Option ℕ → ℕ → ℕ
closed_to shape image first lnum = if is_first first lnum then shape.leb_size + 1 else written_end shape.min_io (leb_held shape image lnum)

-- bytes of this shape as a volume that has refused these calls
abbrev pub state_with : VolShape → List ℕ → Refusals → VolumeState
state_with shape image refusals = record {
  leb_size = shape.leb_size;
  min_io = shape.min_io;
  leb_cnt = shape.leb_cnt;
  holds = leb_held shape image;
  written = closed_to shape image refusals.first;
  left_now = λ n c. c ≡ leb_held shape image n;
  left_mapped = λ n c. c ≡ leb_held shape image n;
  moment = 0;
  left_since = λ t contents. (n : ℕ) → contents n ≡ leb_held shape image n;
  faults = refusals.count;
  sure = refusals.first ≡ None;
  spent = refusals.first ≢ None;
  unbroken = refusals.first ≡ None;
}

-- all that there is to say of it
abbrev pub state_of : ImageVolume → VolumeState
state_of v = state_with v.shape v.bytes.now v.refusals

-- what is kept of refusals after one more, of a call on this LEB
abbrev pub after_refusal : Refusals → ℕ → Refusals
after_refusal refusals lnum = record { first = Some (unwrap_or refusals.first lnum); count = one_more refusals.count }

-- A call on this LEB was refused: it answers the count of faults, which is one more, and all bytes are as they were.
pub record IsRefused (old new : ImageVolume) (lnum : ℕ) (result : Result (Unit {0}) VolFault) : Type 0 where
  pub answer : result ≡ Err (Failed (one_more old.refusals.count))
  pub shape : new.shape ≡ old.shape
  pub bytes : new.bytes.now ≡ old.bytes.now
  pub refusals : new.refusals ≡ after_refusal old.refusals lnum

-- A call was not refused, and left the volume as it was.
pub record IsServed (old new : ImageVolume) (result : Result (Unit {0}) VolFault) : Type 0 where
  pub answer : IsOk result
  pub shape : new.shape ≡ old.shape
  pub bytes : new.bytes.now ≡ old.bytes.now
  pub refusals : new.refusals ≡ old.refusals

-- why bytes aren't a volume of this shape; memory is never wanting
abbrev pub IsMisfit : VolShape → List ℕ → LoadFault → Type 0
IsMisfit shape image Memory = ⊥
IsMisfit shape image (Short len) = IsShort shape.leb_size image × (len ≡ length image)
IsMisfit shape image (Long len most) = IsLong shape image × (len ≡ length image) × (most ≡ shape.leb_size * shape.leb_cnt)
