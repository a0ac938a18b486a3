-- A volume in memory as a volume. It keeps no record of its calls, so its outcomes at any moment are those of now.
use Rattle.std.specs.Prelude.{◌≡◌, ℕ, ◌<◌, ◌/◌, ◌%◌, false, List, [], slice_get}
use Rattle.ubi_volume.specs.Volume.{VolumeState, Only, filled}
use Rattle.ubi_volume.specs.Lebs.{bytes_in, written_in, views, IsLeft}
use Rattle.ubi_volume.specs.Arming.{IsUnarmed}
use Rattle.ubi_volume.specs.Patterns.{left_in, digits_at}
use Rattle.ubi_volume.specs.Effects.{MemState}
use Rattle.ubi_volume.specs.declared.arming.Arming.{Arming}
use Rattle.ubi_volume.specs.declared.leb.Leb.{Leb}
use Rattle.ubi_volume.specs.declared.mem_volume.MemVolume.{MemVolume}
use Rattle.ubi_volume.specs.declared.mem_volume.VolShape.{VolShape}

-- the same of its parts
abbrev pub state_with : VolShape → List Leb → Arming → VolumeState
state_with shape lebs arming = record {
  leb_size = shape.leb_size;
  min_io = shape.min_io;
  leb_cnt = shape.leb_cnt;
  holds = λ n. bytes_in (slice_get lebs n);
  written = λ n. written_in (slice_get lebs n);
  left_now = λ n c. IsLeft (slice_get lebs n) c;
  left_mapped = λ n c. c ≡ bytes_in (slice_get lebs n);
  moment = 0;
  left_since = λ t contents. (n : ℕ) → IsLeft (slice_get lebs n) (contents n);
  faults = arming.faults;
  sure = IsUnarmed arming;
  spent = ⊥;
  unbroken = arming.is_cut ≡ false;
}

-- all that there is to say of it
abbrev pub state_of : MemVolume → VolumeState
state_of v = state_with v.shape v.lebs.items v.arming

-- what is armed, and what has struck
abbrev pub arming_of : MemVolume → Arming
arming_of v = v.arming

-- all that decides what its calls do
abbrev pub mem_with : List Leb → Arming → MemState
mem_with lebs arming = record { leb = views lebs; arming = arming }

abbrev pub mem_of : MemVolume → MemState
mem_of v = mem_with v.lebs.items v.arming

-- What a cut leaves of a LEB: of the digits behind the lowest each is for an unmapping that may be undone, in order of LEB.
abbrev pub contents_left : MemState → ℕ → List ℕ
contents_left v lnum = left_in (digits_at (v.arming.pattern / 4) v.leb lnum % 4) (v.leb lnum)

-- the volume as if no call were armed to fail
abbrev pub without_fail : VolumeState → VolumeState
without_fail state = record state { sure = Unit {0} }

-- a volume of which each LEB is unwritten, whatever cut may come
pub record IsBlank (shape : VolShape) (state : VolumeState) : Type 0 where
  pub leb_size : state.leb_size ≡ shape.leb_size
  pub min_io : state.min_io ≡ shape.min_io
  pub leb_cnt : state.leb_cnt ≡ shape.leb_cnt
  pub holds : (k : ℕ) → k < shape.leb_cnt → state.holds k ≡ filled shape.leb_size []
  pub written : (k : ℕ) → state.written k ≡ 0
  pub left : (k : ℕ) → Only (state.holds k) (state.left_now k)
  pub faults : state.faults ≡ 0
  pub sure : state.sure
  pub unbroken : state.unbroken
