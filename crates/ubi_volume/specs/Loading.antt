-- What a volume is that was loaded from an image.
use Rattle.std.specs.Prelude.{◌≡◌, ◌≢◌, ◌⊎◌, ℕ, ◌*◌, ◌-◌, ◌%◌, ◌<◌, ◌≤◌, List, length, take, drop, replicate, ⊤}
use Rattle.ubi_volume.specs.Volume.{VolumeState, Only, filled}
use Rattle.ubi_volume.specs.declared.fault.LoadFault.{LoadFault}
use Rattle.ubi_volume.specs.declared.fault.LoadFault.TheVariants.{Memory, Short, Long}
use Rattle.ubi_volume.specs.declared.mem_volume.VolShape.{VolShape}

-- from this place on all bytes are erased
abbrev pub IsErased : ℕ → List ℕ → Type 0
IsErased place bytes = drop place bytes ≡ replicate (length bytes - place) 255

-- how many bytes count as written: those up to the end of the last unit that isn't erased
pub record IsWrittenPart (unit : ℕ) (bytes : List ℕ) (n : ℕ) : Type 0 where
  pub whole : n % unit ≡ 0
  pub behind : IsErased n bytes
  pub least : (m : ℕ) → m % unit ≡ 0 → IsErased m bytes → n ≤ m

-- the bytes of a LEB of an image; what the image doesn't have is erased
abbrev pub leb_of : ℕ → List ℕ → ℕ → List ℕ
leb_of size image lnum = filled size (take size (drop (lnum * size) image))

-- A volume that was found with these contents, as after a cut: of each LEB the part up to the last unit that isn't erased
-- counts as written, a cut leaves nothing else, no call fails, and none that failed is under way.
pub record IsFound (contents : ℕ → List ℕ) (state : VolumeState) : Type 0 where
  pub holds : (k : ℕ) → k < state.leb_cnt → state.holds k ≡ contents k
  pub written : (k : ℕ) → k < state.leb_cnt → IsWrittenPart state.min_io (state.holds k) (state.written k)
  pub left : (k : ℕ) → Only (state.holds k) (state.left_now k)
  pub sure : state.sure
  pub unbroken : state.unbroken

-- a volume that was found with the LEBs of an image
pub record IsLoaded (shape : VolShape) (image : List ℕ) (state : VolumeState) : Type 0 where
  pub leb_size : state.leb_size ≡ shape.leb_size
  pub min_io : state.min_io ≡ shape.min_io
  pub leb_cnt : state.leb_cnt ≡ shape.leb_cnt
  pub found : IsFound (leb_of shape.leb_size image) state
  pub faults : state.faults ≡ 0

-- an image of fewer than 4,096 bytes, or with a part of a LEB
abbrev pub IsShort : ℕ → List ℕ → Type 0
IsShort size image = (length image < 4096) ⊎ (length image % size ≢ 0)

-- an image of whole LEBs with a byte behind the volume that isn't erased
pub record IsLong (shape : VolShape) (image : List ℕ) : Type 0 where
  pub some : 4096 ≤ length image
  pub whole : length image % shape.leb_size ≡ 0
  pub more : ¬ IsErased (shape.leb_size * shape.leb_cnt) image

-- an image of whole LEBs, at least 4,096 bytes, with nothing behind the volume that isn't erased
pub record Fits (shape : VolShape) (image : List ℕ) : Type 0 where
  pub some : 4096 ≤ length image
  pub whole : length image % shape.leb_size ≡ 0
  pub no_more : IsErased (shape.leb_size * shape.leb_cnt) image

-- why an image isn't loaded; want of memory says nothing of it
abbrev pub IsUnloaded : VolShape → List ℕ → LoadFault → Type 0
IsUnloaded shape image Memory = ⊤
IsUnloaded shape image (Short len) = IsShort shape.leb_size image × (len ≡ length image)
IsUnloaded shape image (Long len most) = IsLong shape image × (len ≡ length image) × (most ≡ shape.leb_size * shape.leb_cnt)
