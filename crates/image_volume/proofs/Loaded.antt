-- What the volume is at first.
use Rattle.std.specs.Prelude.{Bool, None, if◌then◌else◌}
use Rattle.std.proofs.Common.{◌≡◌, ℕ, List, [], refl, ap}
use Rattle.std.proofs.lemmas.Bool.{lt-ltb}
use Rattle.ubi_volume.specs.Loading.{IsLoaded, leb_of}
use Rattle.ubi_volume.specs.Shape.{IsShape}
use Rattle.ubi_volume.specs.declared.mem_volume.VolShape.{VolShape}
use Rattle.image_volume.specs.ImageVolume.{state_with, leb_held}
use Rattle.image_volume.specs.WrittenLaws.{written_end-is}

-- where nothing was refused it is one that was loaded
pub loaded_state : (shape : VolShape) (image : List ℕ) → IsShape shape → IsLoaded shape image (state_with shape image (record { first = None; count = 0 }))
loaded_state shape image is = record {
  leb_size = refl;
  min_io = refl;
  leb_cnt = refl;
  found = record {
    holds = λ k inside. ap (λ (b : Bool). if b then leb_of shape.leb_size image k else []) (lt-ltb k shape.leb_cnt inside);
    written = λ k inside. written_end-is shape.min_io (leb_held shape image k) is.unit;
    left = λ k c left. left;
    sure = refl;
    unbroken = refl;
  };
  faults = refl;
}
