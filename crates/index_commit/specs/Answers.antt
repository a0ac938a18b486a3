-- Why a commit of the index ends without its root.
use Rattle.std.specs.Prelude.{◌≡◌, ◌⊎◌, ◌<◌, ◌≤◌, ℕ, false, None, Result, Err, Ok, ⊤}
use Rattle.ubifs_base.specs.Faults.{IsCause}
use Rattle.ubi_volume.specs.declared.fault.AreaFault.{AreaFault}
use Rattle.ubi_volume.specs.declared.fault.AreaFault.TheVariants as areas
use Rattle.ubi_volume.specs.Volume.{VolumeState, SameShape}
use Rattle.media_sys.specs.Index.{in_order}
use Rattle.index_cache.specs.Commit.{IsNextNode, said_of}
use Rattle.index_cache.specs.declared.paged.PagedIndex.{PagedIndex}
use Rattle.index_commit.specs.declared.index_fault.IndexFault.{IndexFault}
use Rattle.index_commit.specs.declared.index_fault.IndexFault.TheVariants.{Memory, Full, EqualKeys, Volume}

-- the fault of a call that reads the index, as that of a commit
abbrev pub index_fault : AreaFault → IndexFault
index_fault areas.Memory = Memory
index_fault (areas.Volume count) = Volume count

-- the call didn't answer that the volume failed
abbrev pub IsIndexNotFailed : {T : Type 0} → Result T IndexFault → Type 0
IsIndexNotFailed (Ok x) = ⊤
IsIndexNotFailed (Err Memory) = ⊤
IsIndexNotFailed (Err (Full need given)) = ⊤
IsIndexNotFailed (Err EqualKeys) = ⊤
IsIndexNotFailed (Err (Volume count)) = ⊥

-- that the volume failed comes only where its count of faults rose, and tells the count; the count never falls
abbrev pub HasIndexCause : {T : Type 0} → ℕ → ℕ → Result T IndexFault → Type 0
HasIndexCause before now (Ok x) = before ≤ now
HasIndexCause before now (Err Memory) = before ≤ now
HasIndexCause before now (Err (Full need given)) = before ≤ now
HasIndexCause before now (Err EqualKeys) = before ≤ now
HasIndexCause before now (Err (Volume count)) = IsCause before now count

-- where the volume was sure, it still is, and the call met no fault of it; or the volume is spent now
abbrev pub StaysSureIndex : {T : Type 0} → VolumeState → VolumeState → Result T IndexFault → Type 0
StaysSureIndex old new result = old.sure → new.spent ⊎ (new.sure × ((new.faults ≡ old.faults) × IsIndexNotFailed result))

-- the call wants an order of keys, if it fails
abbrev pub IsLayingFault : {T : Type 0} → Result T IndexFault → Type 0
IsLayingFault (Ok x) = ⊤
IsLayingFault (Err Memory) = ⊥
IsLayingFault (Err (Full need given)) = ⊥
IsLayingFault (Err EqualKeys) = ⊤
IsLayingFault (Err (Volume count)) = ⊥

-- the call didn't answer that LEBs don't suffice
abbrev pub IsNotFull : {T : Type 0} → Result T IndexFault → Type 0
IsNotFull (Ok x) = ⊤
IsNotFull (Err Memory) = ⊤
IsNotFull (Err (Full need given)) = ⊥
IsNotFull (Err EqualKeys) = ⊤
IsNotFull (Err (Volume count)) = ⊤

-- this holds where the call wants memory
abbrev pub OnMemory : {T : Type 0} → Type 0 → Result T IndexFault → Type 0
OnMemory P (Ok x) = ⊤
OnMemory P (Err Memory) = P
OnMemory P (Err (Full need given)) = ⊤
OnMemory P (Err EqualKeys) = ⊤
OnMemory P (Err (Volume count)) = ⊤

-- The LEBs don't suffice exactly where it says so, with how many are needed and how many there are. Then nothing is touched
abbrev pub IsFullOf : {T : Type 0} → Type 0 → ℕ → ℕ → Result T IndexFault → Type 0
IsFullOf Untouched need given (Ok x) = need ≤ given
IsFullOf Untouched need given (Err Memory) = need ≤ given
IsFullOf Untouched need given (Err (Full n m)) = (given < need) × (n ≡ need) × (m ≡ given) × Untouched
IsFullOf Untouched need given (Err EqualKeys) = need ≤ given
IsFullOf Untouched need given (Err (Volume count)) = need ≤ given

-- what every call says of its answer
pub record IsIndexAnswered {T : Type 0} (old new : VolumeState) (result : Result T IndexFault) : Type 0 where
  pub shape : SameShape old new
  pub cause : HasIndexCause old.faults new.faults result
  pub sure : StaysSureIndex old new result

-- Where it answers that two branches of a node have one key: the first node that is dirty now has, so no index node says its branches
abbrev pub HasEqualKeys : {T : Type 0} → PagedIndex → Result T IndexFault → Type 0
HasEqualKeys index (Ok x) = ⊤
HasEqualKeys index (Err Memory) = ⊤
HasEqualKeys index (Err (Full need given)) = ⊤
HasEqualKeys index (Err EqualKeys) = (node : ℕ) × IsNextNode index node × (in_order None (said_of index node).branches ≡ false)
HasEqualKeys index (Err (Volume count)) = ⊤
