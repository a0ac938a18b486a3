-- Calls that read a volume.
use Rattle.std.specs.Prelude.{Result}
use Rattle.ubi_volume.specs.Volume.{VolumeState, Keeps, SameShape}
use Rattle.image_check.specs.Told.{HasCheckCause, StaysSureCheck}
use Rattle.image_check.specs.declared.fault.CheckFault.{CheckFault}

-- The volume is as it was. It is told to have failed only where its count of faults rose, and one that was sure didn't fail, or is spent.
pub record ReadsOnly {T : Type 0} (old new : VolumeState) (result : Result T CheckFault) : Type 0 where
  pub keeps : Keeps old new
  pub shape : SameShape old new
  pub cause : HasCheckCause old.faults new.faults result
  pub sure : StaysSureCheck old new result
