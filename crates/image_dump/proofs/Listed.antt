-- The LEBs so far are listed, and the volume is as it was.
use Rattle.std.proofs.Common.{◌≡◌, ℕ, suc, ◌+◌, List, ◌++◌, length, subst, arith}
use Rattle.ubifs_base.specs.declared.raw_geometry.RawGeometry.{RawGeometry}
use Rattle.ubi_volume.specs.Volume.{VolumeState, Keeps}
use Rattle.lpt_area.specs.KeptLaws.{IsKept}
use Rattle.image_dump.specs.Listing.{IsListing, IsLebListing}

pub record SoFar (geo : RawGeometry) (old now : VolumeState) (n : ℕ) (text leb : List ℕ) : Type 0 where
  pub listing : IsListing geo old.holds n text
  pub kept : IsKept old now
  pub len : length leb ≡ old.leb_size

-- one LEB more
pub listing_next : (geo : RawGeometry) (old now : VolumeState) (n : ℕ) (text new last : List ℕ) → IsListing geo old.holds n text → Keeps old now → IsLebListing geo n (now.holds n) last → new ≡ text ++ last → IsListing geo old.holds (n + 1) new
listing_next geo old now n text new last before keeps one e =
    let P : List ℕ → Type 0 = λ leb. IsLebListing geo n leb last in
    let more : IsListing geo old.holds (suc n) new = (text, last, before, subst P (keeps.holds n) one, e) in
    let Q : ℕ → Type 0 = λ m. IsListing geo old.holds m new in
    let next : suc n ≡ n + 1 = omega arith in
    subst Q next more
