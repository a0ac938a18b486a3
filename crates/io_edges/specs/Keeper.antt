-- What a keeper's calls promise. Files are a function from the bytes of a name to the bytes of a file, where there is one.
use Rattle.std.specs.Prelude.{◌≡◌, ℕ, Bool, List, Option, Some, Result, Ok, Err}
use Rattle.std.specs.Str.{bytes_eq}
use Rattle.std.specs.Map.{update}
use Rattle.ubifs_base.specs.Faults.{IsCause}
use Rattle.io_edges.specs.declared.keeper.KeepFault.{KeepFault}
use Rattle.io_edges.specs.declared.keeper.KeepFault.TheVariants.{Failed, Missing, Memory}

-- what there is to say of a keeper at one moment
pub record KeeperState : Type 0 where
  -- whether it tells what its files hold, and the bytes of the file of a name, where there is one
  pub tells : Bool
  pub content : List ℕ → Option (List ℕ)
  -- how many calls failed
  pub faults : ℕ

-- all files are as they were
abbrev pub SameFiles : KeeperState → KeeperState → Type 0
SameFiles old new = (name : List ℕ) → new.content name ≡ old.content name

-- the file of this name has these bytes, and the others are as they were
abbrev pub SetsFile : KeeperState → List ℕ → List ℕ → KeeperState → Type 0
SetsFile old name bytes new = (other : List ℕ) → new.content other ≡ update bytes_eq old.content name (Some bytes) other

-- the call answered Failed
abbrev pub IsFailed : {T : Type 0} → Result T KeepFault → Type 0
IsFailed (Err (Failed count)) = Unit {0}
IsFailed (Err Missing) = ⊥
IsFailed (Err Memory) = ⊥
IsFailed (Ok x) = ⊥

-- Failed comes exactly where the count of faults rose in the call, and tells it; any other answer leaves the count
abbrev pub IsCounted : {T : Type 0} → ℕ → ℕ → Result T KeepFault → Type 0
IsCounted before now (Err (Failed count)) = IsCause before now count
IsCounted before now (Err Missing) = now ≡ before
IsCounted before now (Err Memory) = now ≡ before
IsCounted before now (Ok x) = now ≡ before
