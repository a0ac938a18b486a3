-- Leaves that are counted one after another.
use Rattle.std.specs.Prelude.{◌≡◌, ℕ, ◌+◌, ◌^◌, ◌≤◌, List, ◌++◌, length}
use Rattle.ubifs_base.specs.declared.raw_geometry.RawGeometry.{RawGeometry}
use Rattle.media_leaf.specs.LeafNode.{LeafNode}
use Rattle.image_maker.specs.Packed.{packed_leaves}
use Rattle.tree_space.specs.declared.tally.Tally.{Tally}

-- how many LEBs are taken once these leaves are counted too, the open one among them
abbrev pub lebs_with : RawGeometry → Tally → List LeafNode → ℕ
lebs_with geo tally leaves = tally.full + length (packed_leaves geo.leb_size tally.taken leaves)

-- these leaves can be counted next
pub record CanTake (next : List LeafNode) (tally : Tally) : Type 0 where
  pub few : tally.leaves + length next ≤ 2 ^ 40
  pub full : tally.full ≤ tally.leaves

-- these leaves were counted
pub record Counts (geo : RawGeometry) (next : List LeafNode) (before after : Tally) : Type 0 where
  pub leaves : after.leaves ≡ before.leaves + length next
  pub full : before.full ≤ before.leaves → after.full ≤ after.leaves
  pub lebs : (more : List LeafNode) → lebs_with geo after more ≡ lebs_with geo before (next ++ more)
