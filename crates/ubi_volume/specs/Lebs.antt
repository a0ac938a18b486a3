-- The LEBs of a volume in memory.
use Rattle.std.specs.Prelude.{◌≡◌, ◌≢◌, ◌⊎◌, IsTrue, false, ℕ, ◌-◌, ◌*◌, ◌≤◌, if◌then◌else◌, take, List, [], Option, Some, None, slice_get, length, drop, replicate, All, vec_capacity}
use Rattle.ubifs_base.specs.NodeLaws.{IsBytes}
use Rattle.ubi_volume.specs.Volume.{filled, IsLebBytes}
use Rattle.ubi_volume.specs.Loading.{IsWrittenPart}
use Rattle.ubi_volume.specs.declared.leb.Leb.{Leb}

-- the bytes of a LEB, and none of one that isn't there
abbrev pub bytes_in : Option Leb → List ℕ
bytes_in (Some leb) = leb.content.items
bytes_in None = []

-- how many of them aren't open for writing
abbrev pub written_in : Option Leb → ℕ
written_in (Some leb) = leb.written
written_in None = 0

-- the bytes that an undone unmapping brings back, while it may be undone
abbrev pub pending_in : Option Leb → Option (List ℕ)
pending_in (Some leb) = if leb.undo then Some leb.before.items else None
pending_in None = None

-- a LEB as it is kept: its bytes, how many of them aren't open for writing, and those that an undone unmapping brings back
pub record LebView : Type 0 where
  pub bytes : List ℕ
  pub written : ℕ
  pub pending : Option (List ℕ)

abbrev pub view_of : Option Leb → LebView
view_of leb = record { bytes = bytes_in leb; written = written_in leb; pending = pending_in leb }

-- each LEB of several
abbrev pub views : List Leb → ℕ → LebView
views lebs lnum = view_of (slice_get lebs lnum)

-- what a cut may leave: the bytes, or those from before an unmapping that isn't final
abbrev pub IsLeft : Option Leb → List ℕ → Type 0
IsLeft (Some leb) c = (c ≡ leb.content.items) ⊎ (IsTrue leb.undo × (c ≡ leb.before.items))
IsLeft None c = c ≡ []

-- a LEB of this size, of which what isn't written is 255, with room for what an unmapping leaves to be undone
pub record IsLeb (size : ℕ) (leb : Leb) : Type 0 where
  pub content : IsLebBytes size leb.content.items
  pub before : IsTrue leb.undo → IsLebBytes size leb.before.items
  pub room : size ≤ vec_capacity leb.before
  pub blank : drop leb.written leb.content.items ≡ replicate (size - leb.written) 255

-- one LEB became this one, and the rest is the same
pub record IsReplaced (size : ℕ) (old new : List Leb) (n : ℕ) (leb : LebView) : Type 0 where
  pub others : (k : ℕ) → k ≢ n → slice_get new k ≡ slice_get old k
  pub bytes_are : bytes_in (slice_get new n) ≡ leb.bytes
  pub written_is : written_in (slice_get new n) ≡ leb.written
  pub pending_is : pending_in (slice_get new n) ≡ leb.pending
  pub len : length new ≡ length old
  pub sizes : All (IsLeb size) new

-- an unwritten LEB, of which a cut leaves nothing else
pub record IsBlankLeb (size : ℕ) (leb : Leb) : Type 0 where
  pub content : leb.content.items ≡ replicate size 255
  pub room : size ≤ vec_capacity leb.before
  pub written : leb.written ≡ 0
  pub undo : leb.undo ≡ false

-- a LEB with these bytes, of which a cut leaves nothing else
pub record IsLoadedLeb (size unit : ℕ) (bytes : List ℕ) (leb : Leb) : Type 0 where
  pub content : leb.content.items ≡ filled size bytes
  pub is_bytes : IsBytes leb.content.items
  pub room : size ≤ vec_capacity leb.before
  pub written : IsWrittenPart unit leb.content.items leb.written
  pub undo : leb.undo ≡ false

-- LEBs with the bytes of an image, each with its own
pub record AreLoaded (size unit : ℕ) (image : List ℕ) (lebs : List Leb) : Type 0 where
  pub each : (k : ℕ) (leb : Leb) → slice_get lebs k ≡ Some leb → IsLoadedLeb size unit (take size (drop (k * size) image)) leb
