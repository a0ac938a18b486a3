-- What the rule on the tree asks, part by part.
use Rattle.std.specs.Prelude.{◌≡◌, ◌⊎◌, ℕ, IsSome, All, List, map}
use Rattle.std.specs.List.{AllByRecursion}
use Rattle.media_leaf.specs.LeafNode.{IsLeaf}
use Rattle.media_sys.specs.declared.ref_node.RefNode.{RefNode}
use Rattle.fs_model.specs.Files.{Tree}
use Rattle.index_tree.specs.Distinct.{AreDistinct}
use Rattle.index_tree.specs.declared.leaf.Leaf.{Leaf}
use Rattle.group_nodes.specs.Nodes.{change_of}
use Rattle.journal_scan.specs.Content.{told}
use Rattle.journal_scan.specs.declared.journal_read.JournalRead.{JournalRead}
use Rattle.leaf_map.specs.Kept.{Kept, Placed}
use Rattle.leaf_map.specs.Parts.{Parts}
use Rattle.leaf_map.specs.Recovered.{nodes_in_order}
use Rattle.log_replay.specs.declared.committed_leaf.CommittedLeaf.{CommittedLeaf}
use Rattle.sound_image.specs.Breaches.{IsAtNode, inode_number_of}
use Rattle.sound_image.specs.Tree.{IsCopy, ShowsItsNode}
use Rattle.sound_image.specs.Wrong.{IsOneOf, Wrong, differs}
use Rattle.shown_leaves.specs.Copies.{ArePartsTold}
use Rattle.shown_leaves.specs.Sources.{IsUnlikeIn}
use Rattle.tree_check.specs.Places.{AreInPlace, IsOutOfPlaceAt}

-- these are told of nodes, copies and committed leaves that stand in the volume
pub record AreNodesTold (contents : ℕ → List ℕ) (parts : Parts) (leaves : List Leaf) (references : List RefNode) (committed : List CommittedLeaf) (journal : JournalRead) : Type 0 where
  pub parts_told : ArePartsTold contents parts references committed journal.copies.items
  pub nodes_told : journal.nodes.items ≡ map told (nodes_in_order parts.nodes)
  pub leaf_nodes : AllByRecursion (λ x. IsLeaf x.node) parts.nodes
  pub leaves_are : leaves ≡ map (λ x. x.leaf) parts.committed

-- each node says a change, each of the collector's is a copy, and no committed leaf is there twice
pub record HasPartNodes (parts : Parts) : Type 0 where
  pub changes : All (λ (x : Placed). IsSome (change_of x.node)) parts.nodes
  pub copies : All (IsCopy parts) parts.copies
  pub distinct : AreDistinct (map (λ x. x.leaf) parts.committed)

-- this is wrong at one of these leaves, where the number by which it is named is wanted
abbrev pub IsNamedIn : List Kept → Wrong → Type 0
IsNamedIn kept at = (x : Kept) × IsOneOf x kept × IsAtNode x (differs (inode_number_of x) 0) at

-- one of these leaves doesn't show what stands at its place, or is out of its place, or there is no inode 1
abbrev pub IsWrongPlaced : (ℕ → List ℕ) → List Kept → Tree → ℕ × ℕ → Wrong → Type 0
IsWrongPlaced contents kept tree root at = IsUnlikeIn contents kept at ⊎ IsOutOfPlaceAt kept tree root at

-- all show what stands at their places, and are in their places
pub record AreWellPlaced (contents : ℕ → List ℕ) (kept : List Kept) (tree : Tree) : Type 0 where
  pub shown : All (ShowsItsNode contents) kept
  pub in_place : AreInPlace kept tree
