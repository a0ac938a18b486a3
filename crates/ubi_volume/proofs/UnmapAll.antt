-- The first LEBs are unwritten.
use Rattle.std.proofs.Common.{◌≡◌, ◌⊎◌, ℕ, ◌<◌, ◌≤◌, []}
use Rattle.ubi_volume.specs.Volume.{VolumeState, SameShape, filled}

pub record SoFar (old now : VolumeState) (n : ℕ) : Type 0 where
  pub shape : SameShape old now
  pub done : (k : ℕ) → k < n → now.holds k ≡ filled old.leb_size []
  pub count : old.faults ≤ now.faults
  pub sure : old.sure → now.spent ⊎ (now.sure × (now.faults ≡ old.faults))
