-- The volume of an image has the shape that its superblock tells.
use Rattle.std.proofs.Common.{ℕ, List}
use Rattle.ubifs_base.specs.declared.raw_geometry.RawGeometry.{RawGeometry}
use Rattle.ubi_volume.specs.Loading.{IsLoaded}
use Rattle.image_volume.specs.ImageVolume.{state_of}
use Rattle.image_volume.specs.declared.image_volume.ImageVolume.{ImageVolume}
use Rattle.recovered_tree.specs.Checked.{HasShapeOfImage}
use Rattle.image_dump.specs.ContentsLaws.{OneGeometry, some_lebs, geometry_told}
use Rattle.image_dump.specs.Opening.{HasVolume, shape_of}

-- the volume of an image has the shape that its superblock tells
pub shape_at : OneGeometry → (image : List ℕ) (geo : RawGeometry) (v : ImageVolume) → HasVolume image geo → IsLoaded (shape_of geo) image (state_of v) → HasShapeOfImage (state_of v)
shape_at one image geo v volume loaded = record { some = some_lebs image geo v volume loaded; shape = λ g other. geometry_told one image geo g v volume loaded other }
