-- The live nodes of a tree, laid from the first main LEB on.
use Rattle.std.specs.Prelude.{ℕ, List, map}
use Rattle.std.specs.List.{AllByRecursion}
use Rattle.ubifs_base.specs.Areas.{main_first}
use Rattle.ubifs_base.specs.declared.raw_geometry.RawGeometry.{RawGeometry}
use Rattle.fs_model.specs.Files.{Tree}
use Rattle.index_media.specs.PlacedRow.{branch_to}
use Rattle.leaf_map.specs.Kept.{Placed}
use Rattle.laid_main.specs.Filling.{AreFilled, TakesOfLebs}
use Rattle.sound_image.specs.Leaves.{IsPlacedIn}
use Rattle.laid_image.specs.Laid.{leaf_of_placed}
use Rattle.tree_nodes.specs.Stored.{AreNodesOfTree}
use Rattle.laid_tree.specs.Standing.{StandInOrder}

-- These nodes are the live nodes of a tree. Each stands whole at its place, from the first main LEB on one behind another. They take so many bytes
-- of each LEB that they stand in, and behind the units of these bytes nothing is written there.
pub record AreLeavesLaid (geo : RawGeometry) (contents : ℕ → List ℕ) (tree : Tree) (nodes : List Placed) (used : List ℕ) : Type 0 where
  pub are : AreNodesOfTree tree nodes
  pub stand : AllByRecursion (IsPlacedIn contents) nodes
  pub order : StandInOrder (main_first geo) 0 nodes
  pub takes : TakesOfLebs (main_first geo) used (map branch_to (map leaf_of_placed nodes))
  pub filled : AreFilled geo contents (main_first geo) used
