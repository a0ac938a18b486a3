-- What calls that lay nodes into LEBs of a range leave of the volume, whatever they answer.
use Rattle.std.specs.Prelude.{◌⊎◌, ℕ, ◌<◌, ◌≤◌, Result}
use Rattle.ubi_volume.specs.Faults.{HasAreaCause, StaysSureArea}
use Rattle.ubi_volume.specs.Frame.{IsSameLeb}
use Rattle.ubi_volume.specs.Volume.{SameShape, VolumeState}
use Rattle.ubi_volume.specs.declared.fault.AreaFault.{AreaFault}

-- LEBs before the first one and from the last one on are as they were
abbrev pub AreOthersSame : ℕ → ℕ → VolumeState → VolumeState → Type 0
AreOthersSame first last old new = (k : ℕ) → (k < first) ⊎ (last ≤ k) → IsSameLeb old new k

-- so is each LEB out of these, and the answer tells faults
pub record IsLayingAnswered {T : Type 0} (first last : ℕ) (old new : VolumeState) (result : Result T AreaFault) : Type 0 where
  pub others : AreOthersSame first last old new
  pub spent : old.spent → new.spent
  pub shape : SameShape old new
  pub cause : HasAreaCause old.faults new.faults result
  pub sure : StaysSureArea old new result
