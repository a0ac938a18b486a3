-- What is told of a sound image, and what was read of it.
use Rattle.std.specs.Prelude.{◌≡◌, ℕ, List}
use Rattle.ubifs_base.specs.RawOf.{raw_of}
use Rattle.leaf_map.specs.Recovered.{recovered_of}
use Rattle.sound_image.specs.Image.{Image, parts_of}
use Rattle.sound_image.specs.Summary.{is_clean, space_of_image}
use Rattle.index_check.specs.FoundIndex.{IsFoundIndex}
use Rattle.tree_check.specs.Told.{AreShownBy}
use Rattle.image_tree.specs.Reads.{IsJournalOfImage, IsTreeReadOf}
use Rattle.sound_check.specs.declared.image_read.ImageRead.{ImageRead}
use Rattle.sound_check.specs.declared.sound.Sound.{Sound}

-- whether an image is clean, and its space
abbrev pub told_of : Image → Sound
told_of image = record { clean = is_clean image; space = space_of_image image }

-- All this was read of an image: its geometry, master and properties, its index, its journal, what is recovered of it, and what that shows.
pub record IsReadImage (contents : ℕ → List ℕ) (read : ImageRead) (image : Image) : Type 0 where
  pub geo : image.geo ≡ raw_of read.geometry
  pub latest : image.latest ≡ read.latest
  pub props : image.props ≡ read.props.items
  pub index : IsFoundIndex image.placed read.index
  pub said : IsJournalOfImage contents read.index.leaves.items read.log.references.items read.buds.read image
  pub clean : read.buds.clean ≡ is_clean image
  pub tree : IsTreeReadOf contents image read.tree
  pub shown : AreShownBy (recovered_of (parts_of image)).kept read.shown.items
