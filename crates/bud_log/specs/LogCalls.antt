-- What calls of several steps do to a volume, LEB by LEB.
use Rattle.std.specs.Prelude.{◌≡◌, ◌≢◌, ◌⊎◌, ℕ, Bool, true, false, List, [], length}
use Rattle.ubifs_base.specs.declared.raw_geometry.RawGeometry.{RawGeometry}
use Rattle.ubi_volume.specs.Volume.{VolumeState, Each, Only, filled, put, Torn, UnderWay, IsWritten, ChangeUnderWay, WriteUnderWay}
use Rattle.bud_log.specs.Log.{next_leb}
use Rattle.bud_log.specs.LogAt.{LogAt, lnum_at, IsBetween}

-- the LEB was unmapped and mapped: it is unwritten, and no cut undoes it
pub record IsEmptied (old new : VolumeState) (lnum : ℕ) : Type 0 where
  pub holds : new.holds lnum ≡ filled old.leb_size []
  pub written : new.written lnum ≡ 0
  pub left : Only (filled old.leb_size []) (new.left_now lnum)

-- the LEB was unmapped, and these bytes were written at its start
pub record IsLebBegun (old new : VolumeState) (lnum : ℕ) (bytes : List ℕ) : Type 0 where
  pub holds : new.holds lnum ≡ put 0 bytes (filled old.leb_size [])
  pub written : new.written lnum ≡ length bytes
  pub left : Only (put 0 bytes (filled old.leb_size [])) (new.left_now lnum)

-- what a cut during that leaves, with n bytes
abbrev pub BeginUnderWay : VolumeState → ℕ → ℕ → List ℕ → Type 0
BeginUnderWay old lnum n c = ChangeUnderWay old lnum [] c ⊎ Torn 0 n (filled old.leb_size []) c

-- bytes are added to a log: behind its end, or at the start of the next LEB
abbrev pub IsAdded : Bool → VolumeState → VolumeState → LogAt → List ℕ → Type 0
IsAdded true old new at bytes = IsWritten old new at.lnum at.offs bytes
IsAdded false old new at bytes = IsLebBegun old new (next_leb at.geo at.lnum) bytes

-- what a cut during that leaves of that LEB, with n bytes
abbrev pub AddDuring : Bool → VolumeState → LogAt → ℕ → List ℕ → Type 0
AddDuring true old at n c = WriteUnderWay old at.lnum at.offs n c
AddDuring false old at n c = BeginUnderWay old (next_leb at.geo at.lnum) n c

-- While a bud's LEB is emptied and n bytes are added to the log: first the bud's LEB is emptied, and the log is as it was; the log
-- is added to once the bud's LEB is blank, and no cut undoes that.
abbrev pub OpenUnderWay : Bool → VolumeState → LogAt → ℕ → ℕ → (ℕ → List ℕ) → Type 0
OpenUnderWay here old at bud n c =
    ((k : ℕ) → k ≢ bud → k ≢ lnum_at here at → old.left_now k (c k))
    × ((ChangeUnderWay old bud [] (c bud) × old.left_now (lnum_at here at) (c (lnum_at here at)))
    ⊎ ((c bud ≡ filled old.leb_size []) × AddDuring here old at n (c (lnum_at here at))))

-- while a section is started
abbrev pub StartUnderWay : VolumeState → LogAt → ℕ → (ℕ → List ℕ) → Type 0
StartUnderWay old at n = UnderWay old (next_leb at.geo at.lnum) (AddDuring false old at n)

-- what a cut leaves of a LEB while those from one on and before another are unmapped
abbrev pub UnmapUnderWay : VolumeState → RawGeometry → ℕ → ℕ → ℕ → List ℕ → Type 0
UnmapUnderWay old geo from to k c = old.left_now k c ⊎ (IsBetween geo from to k × (c ≡ filled old.leb_size []))

-- while the sections before the present one are unmapped, each of their LEBs by itself
abbrev pub EndUnderWay : VolumeState → LogAt → (ℕ → List ℕ) → Type 0
EndUnderWay old at = Each (UnmapUnderWay old at.geo at.first at.section)
