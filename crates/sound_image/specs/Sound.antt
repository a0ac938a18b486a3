-- Sound images.
use Rattle.std.specs.Prelude.{ℕ, List}
use Rattle.bud_log.specs.Buds.{buds_of}
use Rattle.bud_log.specs.Log.{references_of}
use Rattle.leaf_map.specs.Recovered.{tree_found}
use Rattle.sound_image.specs.Buds.{HasBuds}
use Rattle.sound_image.specs.Image.{Image, parts_of}
use Rattle.sound_image.specs.Index.{HasIndex}
use Rattle.sound_image.specs.Leaves.{HasLeaves}
use Rattle.sound_image.specs.Log.{HasLog}
use Rattle.sound_image.specs.Masters.{HasMasters}
use Rattle.sound_image.specs.OrphanLists.{HasOrphanLists}
use Rattle.sound_image.specs.Properties.{HasProperties}
use Rattle.sound_image.specs.Space.{HasErasedEnds, HasSums}
use Rattle.sound_image.specs.Superblock.{HasSuperblock}
use Rattle.sound_image.specs.Tree.{HasLinks, HasTree}

-- The contents, bytes by LEB, are a sound image that says this: the twelve rules, in the order in which they are tested.
pub record SoundImage (contents : ℕ → List ℕ) (image : Image) : Type 0 where
  pub superblock : HasSuperblock contents image.geo
  pub masters : HasMasters contents image.geo image.latest
  pub properties : HasProperties contents image.geo image.latest.master image.props
  pub index : HasIndex contents image.geo image.latest.master image.props image.placed
  pub log : HasLog contents image.geo image.latest.master image.log
  pub buds : HasBuds contents (buds_of (references_of image.log)) image.buds
  pub leaves : HasLeaves contents image
  pub sums : HasSums image.geo image.props image.placed
  pub ends : HasErasedEnds contents image.geo image.latest.master image.props image.log
  pub orphans : HasOrphanLists contents image.geo
  pub tree : HasTree contents (parts_of image)
  pub links : HasLinks (tree_found (parts_of image))
