-- What is told of what a mount has read, and what recovery makes of it.
use Rattle.std.specs.Prelude.{◌≡◌, ◌⊎◌, ℕ, List, [], ◌∷◌, map, Option, Some, None}
use Rattle.std.specs.List.{AllByRecursion}
use Rattle.media_leaf.specs.LeafNode.{IsLeaf}
use Rattle.media_sys.specs.declared.ref_node.RefNode.{RefNode}
use Rattle.leaf_map.specs.Kept.{Kept, Placed}
use Rattle.leaf_map.specs.Lost.{empty_names, missing_leaves}
use Rattle.leaf_map.specs.Parts.{Committed, Parts}
use Rattle.leaf_map.specs.Recovered.{nodes_in_order, leaves_found, recovered_of, stand_in}
use Rattle.journal_scan.specs.Content.{node_content_of, told}
use Rattle.journal_scan.specs.declared.journal_node.JournalNode.{JournalNode}
use Rattle.log_replay.specs.Replay.{told_committed}
use Rattle.log_replay.specs.Settling.{HasGrammar}
use Rattle.log_replay.specs.declared.committed_leaf.CommittedLeaf.{CommittedLeaf}
use Rattle.leaf_recovery.specs.declared.recovered_leaf.Place.{Place}
use Rattle.leaf_recovery.specs.declared.recovered_leaf.RecoveredLeaf.{RecoveredLeaf}
use Rattle.leaf_recovery.specs.declared.recovered_leaf.RecoveredLeaves.{RecoveredLeaves}
use Rattle.leaf_recovery.specs.Named.{named_by_reference}
use Rattle.leaf_recovery.specs.Repeated.{repeated_leaves}

-- ---- what is given
-- This is told of what was read: the committed leaves with what stands at their places, the references, the nodes in order of number, the copies, and the list. The nodes are of the grammar, whatever else they are.
pub record AreTold (parts : Parts) (committed : List CommittedLeaf) (references : List RefNode) (nodes copies : List JournalNode) (listed : List ℕ) : Type 0 where
  pub of_leaves : committed ≡ map told_committed parts.committed
  pub of_references : parts.named ≡ map named_by_reference references
  pub of_nodes : nodes ≡ map told (nodes_in_order parts.nodes)
  pub of_copies : copies ≡ map told parts.copies
  pub of_list : parts.listed ≡ listed
  pub leaf_nodes : AllByRecursion HasGrammar parts.committed
  pub node_nodes : AllByRecursion (λ x. IsLeaf x.node) parts.nodes
  pub copy_nodes : AllByRecursion (λ x. IsLeaf x.node) parts.copies

-- ---- what is made
-- two lists are xs long, and this holds of the elements at each place
abbrev pub Pairwise : {A B : Type 0} → (A → B → Type 0) → List A → List B → Type 0
Pairwise R [] [] = Unit {0}
Pairwise R [] (b ∷ ys) = ⊥
Pairwise R (a ∷ xs) [] = ⊥
Pairwise R (a ∷ xs) (b ∷ ys) = R a b × Pairwise R xs ys

-- a node is one of these
abbrev pub IsOneNode : Placed → List Placed → Type 0
IsOneNode node [] = ⊥
IsOneNode node (x ∷ nodes) = (x ≡ node) ⊎ IsOneNode node nodes

-- a node stands at the place of one of these leaves
abbrev pub IsAtLeaf : Placed → List Committed → Type 0
IsAtLeaf node [] = ⊥
IsAtLeaf node (x ∷ committed) = (x.found ≡ Some node) ⊎ IsAtLeaf node committed

-- a node was read: at a committed leaf's place, in the journal, or of the collector's head
abbrev pub WasRead : Parts → Placed → Type 0
WasRead parts node = IsAtLeaf node parts.committed ⊎ (IsOneNode node parts.nodes ⊎ IsOneNode node parts.copies)

-- the place of a node that was read
abbrev pub place_of_read : Placed → Place
place_of_read node = record { lnum = node.lnum; offs = node.offs; len = node.len }

-- a leaf's node was read where it is told, or stands for one of the leaf's key that nobody can read
abbrev pub IsSource : Parts → Kept → Option Place → Type 0
IsSource parts x None = stand_in x.leaf.key ≡ Some x.node
IsSource parts x (Some place) = (node : Placed) × WasRead parts node × (place ≡ place_of_read node) × (node.node ≡ x.node)

-- this is told of a leaf after recovery
pub record IsLeafTold (parts : Parts) (x : Kept) (r : RecoveredLeaf) : Type 0 where
  pub leaf : r.leaf ≡ x.leaf
  pub content : r.content ≡ node_content_of x.node
  pub sqnum : r.sqnum ≡ x.sqnum
  pub source : IsSource parts x r.source

-- of each of these leaves, in order
abbrev pub AreLeavesTold : Parts → List Kept → List RecoveredLeaf → Type 0
AreLeavesTold parts kept rs = Pairwise (IsLeafTold parts) kept rs

-- What is made of what was read: the recovered leaves, the lost ones that the journal hasn't replaced, those of them whose node names no inode, and the leaves that are found and show what one before them shows.
pub record IsRecoveredFrom (parts : Parts) (made : RecoveredLeaves) : Type 0 where
  pub kept : AreLeavesTold parts (recovered_of parts).kept made.kept.items
  pub missing : made.missing.items ≡ missing_leaves parts
  pub empty : made.empty.items ≡ empty_names parts
  pub repeated : AreLeavesTold parts (repeated_leaves (leaves_found parts)) made.repeated.items
