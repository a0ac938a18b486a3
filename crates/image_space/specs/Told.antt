-- What is told of an image to whoever asks for its space.
use Rattle.std.specs.Prelude.{◌≡◌, ℕ, List, map}
use Rattle.ubifs_base.specs.declared.raw_geometry.RawGeometry.{RawGeometry}
use Rattle.media_sys.specs.declared.branch.Branch.{Branch}
use Rattle.media_sys.specs.declared.ref_node.RefNode.{RefNode}
use Rattle.index_tree.specs.declared.leaf.Leaf.{Leaf}
use Rattle.index_media.specs.PlacedRow.{all_nodes}
use Rattle.index_media.specs.Stored.{IsStoredIndex}
use Rattle.bud_log.specs.Log.{references_of}
use Rattle.leaf_map.specs.Recovered.{recovered_of}
use Rattle.sound_image.specs.Image.{Image, parts_of}

-- The geometry; all nodes of the index, which stands in some contents; the log's references; and of the recovered state the
-- leaves and the number of nodes that were applied.
pub record IsToldOf (geo : RawGeometry) (nodes : List Branch) (references : List RefNode) (leaves : List Leaf) (applied : ℕ) (image : Image) : Type 0 where
  pub geometry : image.geo ≡ geo
  pub contents : ℕ → List ℕ
  pub root : Branch
  pub index : IsStoredIndex contents geo.fanout root image.placed
  pub nodes_are : nodes ≡ all_nodes image.placed
  pub references_are : references ≡ references_of image.log
  pub leaves_are : leaves ≡ map (λ x. x.leaf) (recovered_of (parts_of image)).kept
  pub applied_is : applied ≡ (recovered_of (parts_of image)).nodes
