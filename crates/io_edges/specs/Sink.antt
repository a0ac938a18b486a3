-- What a sink's call promises.
use Rattle.std.specs.Prelude.{◌≡◌, ◌≤◌, ◌++◌, ℕ, Bool, List, take, Result, Ok, Err}
use Rattle.ubifs_base.specs.Faults.{Rose, IsCause}
use Rattle.io_edges.specs.declared.sink.SinkFault.{SinkFault}
use Rattle.io_edges.specs.declared.sink.SinkFault.TheVariants.{Failed, Memory}

-- what there is to say of a sink at one moment
pub record SinkState : Type 0 where
  -- whether it tells what it took, and the bytes that were written
  pub tells : Bool
  pub text : List ℕ
  -- how many calls failed, and how many found no memory
  pub faults : ℕ
  pub shortages : ℕ

-- some first part of the piece was added
abbrev pub AddsPrefix : List ℕ → List ℕ → List ℕ → Type 0
AddsPrefix old piece new = (n : ℕ) × (new ≡ old ++ take n piece)

-- the call answered Failed
abbrev pub IsFailed : {T : Type 0} → Result T SinkFault → Type 0
IsFailed (Err (Failed count)) = Unit {0}
IsFailed (Err Memory) = ⊥
IsFailed (Ok x) = ⊥

-- Failed comes exactly where the count of faults rose in the call, and tells it; any other answer leaves the count
abbrev pub IsCounted : {T : Type 0} → ℕ → ℕ → Result T SinkFault → Type 0
IsCounted before now (Err (Failed count)) = IsCause before now count
IsCounted before now (Err Memory) = now ≡ before
IsCounted before now (Ok x) = now ≡ before

-- Memory comes exactly where the count of calls that found no memory rose; any other answer leaves it.
abbrev pub IsShort : {T : Type 0} → ℕ → ℕ → Result T SinkFault → Type 0
IsShort before now (Err (Failed count)) = now ≡ before
IsShort before now (Err Memory) = (before ≤ now) × Rose before now
IsShort before now (Ok x) = now ≡ before
