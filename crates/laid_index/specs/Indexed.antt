-- What a call leaves that lays the index of given leaves.
use Rattle.std.specs.Prelude.{◌≡◌, ℕ, ◌+◌, List, [], ◌∷◌, length, map, take}
use Rattle.ubifs_base.specs.declared.raw_geometry.RawGeometry.{RawGeometry}
use Rattle.media_sys.specs.declared.branch.Branch.{Branch}
use Rattle.index_tree.specs.Shape.{contents as leaves_in, shape_weight}
use Rattle.index_tree.specs.declared.leaf.Leaf.{Leaf}
use Rattle.index_media.specs.PlacedRow.{PlacedRow, all_nodes, branches_of, plain}
use Rattle.index_media.specs.Stored.{IsStoredIndex}
use Rattle.laid_main.specs.Filling.{AreFilled, TakesOfLebs}
use Rattle.laid_index.specs.Packing.{index_used, index_weight}
use Rattle.laid_index.specs.declared.laid_index.LaidIndex.{LaidIndex}

-- The index of these leaves stands in LEBs from a first one on, from the root's branch on, whose key is that of its first child. Its nodes take
-- so many bytes of each, as few as they can in this order, and it weighs what nodes weigh that are full but for the last of a level. Behind their units
-- nothing is written. Each node took a sequence number, from one on.
pub record IsLaidIndex (geo : RawGeometry) (contents : ℕ → List ℕ) (leaves : List Leaf) (first sqnum : ℕ) (made : LaidIndex) : Type 0 where
  pub placed : PlacedRow
  pub index : IsStoredIndex contents geo.fanout made.root placed
  pub key : map (λ (branch : Branch). branch.key) (take 1 (branches_of index.children)) ≡ made.root.key ∷ []
  pub holds : leaves_in (plain placed) ≡ leaves
  pub takes : TakesOfLebs first made.used.items (all_nodes placed)
  pub filled : AreFilled geo contents first made.used.items
  pub used : made.used.items ≡ index_used geo (length leaves)
  pub weight : shape_weight geo.fanout (plain placed) ≡ index_weight geo.fanout (length leaves)
  pub number : made.sqnum ≡ sqnum + length (all_nodes placed)
