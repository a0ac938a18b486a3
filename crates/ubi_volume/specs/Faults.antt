-- When a volume fails. A count of faults that reached 2 ^ 64 - 1 stays there.
use Rattle.std.specs.Prelude.{◌≡◌, ◌⊎◌, ℕ, ◌≤◌, Result, Err, Ok, IsOk}
use Rattle.ubifs_base.specs.Faults.{IsCause}
use Rattle.ubi_volume.specs.Volume.{VolumeState, SameShape}
use Rattle.ubi_volume.specs.declared.fault.VolFault.{VolFault}
use Rattle.ubi_volume.specs.declared.fault.VolFault.TheVariants.{Failed}
use Rattle.ubi_volume.specs.declared.fault.AreaFault.{AreaFault}
use Rattle.ubi_volume.specs.declared.fault.AreaFault.TheVariants.{Memory, Volume}

-- the count that a fault tells
abbrev pub count_of : VolFault → ℕ
count_of (Failed count) = count

-- Failed comes only where the count of faults rose, and tells the count; the count never falls
abbrev pub HasCause : {T : Type 0} → ℕ → ℕ → Result T VolFault → Type 0
HasCause before now (Ok x) = before ≤ now
HasCause before now (Err (Failed count)) = IsCause before now count

-- the same of a call whose other fault is want of memory
abbrev pub HasAreaCause : {T : Type 0} → ℕ → ℕ → Result T AreaFault → Type 0
HasAreaCause before now (Ok x) = before ≤ now
HasAreaCause before now (Err Memory) = before ≤ now
HasAreaCause before now (Err (Volume count)) = IsCause before now count

-- the call didn't answer that the volume failed
abbrev pub IsNotVolume : {T : Type 0} → Result T AreaFault → Type 0
IsNotVolume (Ok x) = Unit {0}
IsNotVolume (Err Memory) = Unit {0}
IsNotVolume (Err (Volume count)) = ⊥

-- where the volume was sure, it still is, and the call succeeded without a fault; or the volume is spent now
abbrev pub StaysSure : {T : Type 0} → VolumeState → VolumeState → Result T VolFault → Type 0
StaysSure old new result = old.sure → new.spent ⊎ (new.sure × ((new.faults ≡ old.faults) × IsOk result))

-- the same of a call whose other fault is want of memory
abbrev pub StaysSureArea : {T : Type 0} → VolumeState → VolumeState → Result T AreaFault → Type 0
StaysSureArea old new result = old.sure → new.spent ⊎ (new.sure × ((new.faults ≡ old.faults) × IsNotVolume result))

-- what every call of a volume says of its answer
pub record HasAnswer {T : Type 0} (old new : VolumeState) (result : Result T VolFault) : Type 0 where
  pub shape : SameShape old new
  pub cause : HasCause old.faults new.faults result
  pub sure : StaysSure old new result
