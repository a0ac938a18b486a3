-- The contents of a volume with the LEBs of a geometry.
use Rattle.std.specs.Prelude.{◌≡◌, ℕ, ◌≤◌, List, []}
use Rattle.ubifs_base.specs.declared.raw_geometry.RawGeometry.{RawGeometry}
use Rattle.fs_model.specs.Files.{Tree}
use Rattle.sound_image.specs.Image.{AreOfVolume, Image}
use Rattle.sound_image.specs.Sound.{SoundImage}
use Rattle.sound_image.specs.Summary.{tree_of_image}

-- The contents are bytes in each LEB of the geometry, as many as it says, and nothing anywhere else.
pub record AreLebsOfGeometry (contents : ℕ → List ℕ) (geo : RawGeometry) : Type 0 where
  pub lebs : AreOfVolume contents geo
  pub none : (lnum : ℕ) → geo.leb_cnt ≤ lnum → contents lnum ≡ []

-- They are a sound image of this geometry, and this is the tree of which a mount makes its files.
pub record AreSoundLebs (contents : ℕ → List ℕ) (geo : RawGeometry) (tree : Tree) : Type 0 where
  pub all : AreLebsOfGeometry contents geo
  pub image : Image
  pub sound : SoundImage contents image
  pub geometry : image.geo ≡ geo
  pub recovered : tree_of_image image ≡ tree
