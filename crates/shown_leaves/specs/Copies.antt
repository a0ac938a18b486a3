-- What is told of committed leaves and of the collector's nodes, and which of these are copies.
use Rattle.std.specs.Prelude.{◌≡◌, ◌⊎◌, ⊤, ℕ, ◌==◌, ◌&&◌, not, Bool, true, false, List, [], ◌∷◌, Option, Some, None, map}
use Rattle.std.specs.List.{AllByRecursion}
use Rattle.std.specs.Option.{option_map}
use Rattle.media_leaf.specs.LeafNode.{LeafNode}
use Rattle.media_sys.specs.declared.ref_node.RefNode.{RefNode}
use Rattle.index_tree.specs.Order.{leaf_rank}
use Rattle.leaf_map.specs.Kept.{Placed}
use Rattle.leaf_map.specs.Parts.{Committed, Named, Parts, in_bud, own_node}
use Rattle.journal_scan.specs.Content.{told}
use Rattle.journal_scan.specs.declared.journal_node.JournalNode.{JournalNode}
use Rattle.log_replay.specs.Replay.{told_committed}
use Rattle.log_replay.specs.Things.{is_at_leaf}
use Rattle.log_replay.specs.declared.committed_leaf.CommittedLeaf.{CommittedLeaf}
use Rattle.sound_image.specs.Image.{named_by_ref_node}
use Rattle.sound_image.specs.Leaves.{IsPlacedIn}
use Rattle.sound_image.specs.Tree.{IsCopy}

-- what was found at a committed leaf's place stands where it is told to stand
abbrev pub FoundStands : (ℕ → List ℕ) → Committed → Type 0
FoundStands contents c = by c.found
  where
    by : Option Placed → Type 0
    by None = ⊤
    by (Some node) = IsPlacedIn contents node

-- These are the committed leaves of which this is told, by these references of the log; what was found at their places stands there.
pub record AreCommittedTold (contents : ℕ → List ℕ) (named : List Named) (leaves : List Committed) (references : List RefNode) (committed : List CommittedLeaf) : Type 0 where
  pub log : named ≡ map named_by_ref_node references
  pub told_leaves : committed ≡ map told_committed leaves
  pub stand : AllByRecursion (FoundStands contents) leaves

-- And these are the collector's nodes, which stand in the volume.
pub record ArePartsTold (contents : ℕ → List ℕ) (parts : Parts) (references : List RefNode) (committed : List CommittedLeaf) (copies : List JournalNode) : Type 0 where
  pub leaves : AreCommittedTold contents parts.named parts.committed references committed
  pub told_copies : copies ≡ map told parts.copies
  pub stand : AllByRecursion (IsPlacedIn contents) parts.copies

-- this is told if a node is a copy, and that if it is none
abbrev pub DecidesCopy : Parts → Placed → Bool → Type 0
DecidesCopy parts x true = IsCopy parts x
DecidesCopy parts x false = IsCopy parts x → ⊥

-- whether what stands at a committed leaf's place is told to be its own node
abbrev pub has_own_told : List RefNode → CommittedLeaf → Bool
has_own_told references x = by x.found
  where
    by : Option JournalNode → Bool
    by None = false
    by (Some node) = is_at_leaf x.leaf node && not (in_bud (map named_by_ref_node references) x.leaf)

-- whether a committed leaf has a key of this rank, and no own node
abbrev pub is_lost_at : List RefNode → ℕ → CommittedLeaf → Bool
is_lost_at references rank x = (leaf_rank x.leaf == rank) && not (has_own_told references x)

-- a node is the own node of a committed leaf, which has a key of this rank
pub record IsOwnAt (named : List Named) (rank : ℕ) (c : Committed) (node : LeafNode) : Type 0 where
  pub key : leaf_rank c.leaf ≡ rank
  pub own : option_map (λ (found : Placed). found.node) (own_node named c) ≡ Some node

-- of one of these leaves
abbrev pub IsOwnAmong : List Named → ℕ → List Committed → LeafNode → Type 0
IsOwnAmong named rank [] node = ⊥
IsOwnAmong named rank (c ∷ leaves) node = IsOwnAt named rank c node ⊎ IsOwnAmong named rank leaves node
