-- What a check tells.
use Rattle.std.specs.Prelude.{◌≡◌, ◌⊎◌, ℕ, ◌≤◌, IsTrue, Bool, true, false, Result, Ok, Err}
use Rattle.ubifs_base.specs.Faults.{IsCause}
use Rattle.ubi_volume.specs.Volume.{VolumeState}
use Rattle.ubi_volume.specs.declared.fault.AreaFault.{AreaFault}
use Rattle.ubi_volume.specs.declared.fault.AreaFault.TheVariants as area
use Rattle.sound_image.specs.Wrong.{Wrong, differs, needs}
use Rattle.sound_image.specs.declared.breach.Breach.{Breach}
use Rattle.sound_image.specs.declared.breach.Breach.TheVariants.{Super as InSuper, Feature as NeedsOne, NoMaster, Damaged}
use Rattle.sound_image.specs.declared.rule.Rule.{Rule}
use Rattle.sound_image.specs.declared.rule.Rule.TheVariants.{Buds, Leaves}
use Rattle.image_check.specs.declared.fault.CheckFault.{CheckFault}
use Rattle.image_check.specs.declared.fault.CheckFault.TheVariants.{Memory, Volume, Unsound}

-- a fault of a call over a volume, as a check tells it
abbrev pub told_fault : AreaFault → CheckFault
told_fault area.Memory = Memory
told_fault (area.Volume count) = Volume count

-- what was read, or the breach that was found, as a check answers it
abbrev pub told_answer : {T : Type 0} → Result (Result T Breach) AreaFault → Result T CheckFault
told_answer (Ok (Ok read)) = Ok read
told_answer (Ok (Err breach)) = Err (Unsound breach)
told_answer (Err fault) = Err (told_fault fault)

-- a breach that is told is such a one; want of memory and a fault of the volume say nothing of the contents
abbrev pub TellsBreach : (Breach → Type 0) → CheckFault → Type 0
TellsBreach Is (Unsound breach) = Is breach
TellsBreach Is Memory = Unit {0}
TellsBreach Is (Volume count) = Unit {0}

-- whether a rule tells a feature that is needed at a place of a LEB: that on buds does, and that on leaves
abbrev pub tells_features : Rule → Bool
tells_features Buds = true
tells_features Leaves = true
tells_features other = false

-- what is told is wrong by this rule, at this place: with these values, or with this feature that is needed there, if the rule tells one
abbrev pub IsBreachOf : Rule → (Wrong → Type 0) → Breach → Type 0
IsBreachOf rule IsWrong (Damaged broken lnum offs wanted found) = (broken ≡ rule) × IsWrong (record { lnum = lnum; offs = offs; misfit = differs wanted found })
IsBreachOf rule IsWrong (InSuper field) = ⊥
IsBreachOf rule IsWrong (NeedsOne what lnum offs) = IsTrue (tells_features rule) × IsWrong (record { lnum = lnum; offs = offs; misfit = needs what })
IsBreachOf rule IsWrong NoMaster = ⊥

-- the volume is told to have failed only where its count of faults rose, and the count is told; it never falls
abbrev pub HasCheckCause : {T : Type 0} → ℕ → ℕ → Result T CheckFault → Type 0
HasCheckCause before now (Ok x) = before ≤ now
HasCheckCause before now (Err Memory) = before ≤ now
HasCheckCause before now (Err (Unsound breach)) = before ≤ now
HasCheckCause before now (Err (Volume count)) = IsCause before now count

-- the check didn't tell that the volume failed
abbrev pub IsNoVolumeFault : {T : Type 0} → Result T CheckFault → Type 0
IsNoVolumeFault (Ok x) = Unit {0}
IsNoVolumeFault (Err Memory) = Unit {0}
IsNoVolumeFault (Err (Unsound breach)) = Unit {0}
IsNoVolumeFault (Err (Volume count)) = ⊥

-- where the volume was sure, it still is, and didn't fail; or it is spent now
abbrev pub StaysSureCheck : {T : Type 0} → VolumeState → VolumeState → Result T CheckFault → Type 0
StaysSureCheck old new result = old.sure → new.spent ⊎ (new.sure × ((new.faults ≡ old.faults) × IsNoVolumeFault result))
