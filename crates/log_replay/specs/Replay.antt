-- What a mount recovers of what it has read.
use Rattle.std.specs.Prelude.{◌≡◌, ℕ, max, fold, length, List, map}
use Rattle.std.specs.List.{AllByRecursion}
use Rattle.std.specs.Option.{option_map}
use Rattle.ubifs_base.specs.Key.{key_words}
use Rattle.index_tree.specs.declared.index.Index.{Index}
use Rattle.index_tree.specs.declared.leaf.Leaf.{Leaf}
use Rattle.index_tree.specs.Shape.{contents}
use Rattle.index_tree.specs.Tree.{shape}
use Rattle.leaf_map.specs.Kept.{node_key}
use Rattle.leaf_map.specs.Parts.{Committed, Named, Parts, in_bud, is_named}
use Rattle.leaf_map.specs.Recovered.{highest_key, nodes_in_order, leaves_found, listed_left, recovered_of, spare_copies}
use Rattle.journal_scan.specs.Content.{told}
use Rattle.journal_scan.specs.Journal.{BudRead, IsBudRead, copies_in, greatest_in, journal_nodes_in}
use Rattle.journal_scan.specs.Places.{named_by}
use Rattle.journal_scan.specs.declared.bud_text.BudText.{BudText}
use Rattle.journal_scan.specs.declared.journal_node.JournalNode.{JournalNode}
use Rattle.log_replay.specs.declared.candidate.Candidate.{Candidate}
use Rattle.log_replay.specs.declared.committed_leaf.CommittedLeaf.{CommittedLeaf}
use Rattle.log_replay.specs.declared.read_leaf.ReadLeaf.{ReadLeaf}
use Rattle.log_replay.specs.declared.replayed.Replayed.{Replayed}
use Rattle.log_replay.specs.Moving.{candidate_at, outside}
use Rattle.log_replay.specs.Settling.{HasGrammar, settled_of}
use Rattle.log_replay.specs.Standing.{leaves}
use Rattle.log_replay.specs.Told.{IsOfJournal}

-- what is told of a committed leaf: itself, and what stands at its place
abbrev pub told_committed : Committed → CommittedLeaf
told_committed c = record { leaf = c.leaf; found = option_map told c.found }

-- References name the same LEBs from the same offsets on. A LEB that has several references, for whatever heads, is read once, for the head and from the offset of the first.
pub record NameTheSame (some others : List Named) : Type 0 where
  pub bud : (leaf : Leaf) → in_bud some leaf ≡ in_bud others leaf
  pub leb : (lnum : ℕ) → is_named some lnum ≡ is_named others lnum

-- These parts are what was read: the index and its leaves with what stands at their places, the nodes and the copies of the texts, and the list.
pub record AreParts (parts : Parts) (reads : List BudRead) (index : Index) (committed : List CommittedLeaf) (listed : List ℕ) : Type 0 where
  pub in_index : contents (shape index.root) ≡ map (λ c. c.leaf) parts.committed
  pub told : committed ≡ map told_committed parts.committed
  pub grammar : AllByRecursion HasGrammar parts.committed
  pub named : NameTheSame parts.named (map (λ x. named_by x.bud) reads)
  pub nodes : parts.nodes ≡ journal_nodes_in reads
  pub copies : parts.copies ≡ copies_in reads
  pub list : parts.listed ≡ listed
  pub journal : IsOfJournal parts

-- These parts are what was read of leaves, references and copies.
pub record CanFind (parts : Parts) (committed : List CommittedLeaf) (references : List Named) (from_copies : List JournalNode) : Type 0 where
  pub of_leaves : committed ≡ map told_committed parts.committed
  pub grammar : AllByRecursion HasGrammar parts.committed
  pub named : NameTheSame parts.named references
  pub copies : from_copies ≡ map told parts.copies
  pub journal : IsOfJournal parts

-- So the leaves are found of these parts, and so those that stand in LEBs which the log doesn't name.
pub record AreFound (parts : Parts) (reads : List ReadLeaf) (outer : List Candidate) : Type 0 where
  pub settled : reads ≡ settled_of parts (spare_copies parts) parts.committed
  pub candidates : outer ≡ map (candidate_at parts.copies) (outside parts.named (leaves_found parts))

-- These parts are what was read of an index, of nodes in order of number, and of the listed inodes that may go.
pub record CanRecover (parts : Parts) (index : Index) (applied : List JournalNode) (listed : List ℕ) : Type 0 where
  pub in_index : contents (shape index.root) ≡ map (λ c. c.leaf) parts.committed
  pub nodes : applied ≡ map told (nodes_in_order parts.nodes)
  pub list : listed_left parts ≡ listed
  pub journal : IsOfJournal parts

-- the greatest inode number in the keys of leaves, or 0
abbrev pub highest_of : List CommittedLeaf → ℕ
highest_of committed = fold (λ n x. max n (key_words x.leaf.key).0) 0 committed

-- the greatest inode number in the keys of leaves and of the nodes that were read, or 0
abbrev pub highest_read : List CommittedLeaf → List BudRead → ℕ
highest_read committed reads = highest_key (highest_of committed) (map (λ x. node_key x.node) (nodes_in_order (journal_nodes_in reads)))

-- What is recovered of an index, its leaves, the LEBs that the log names, and the list: of the parts that say what was read the recovered leaves; of what was read the highest number of keys, how many nodes were applied, the greatest sequence number, and the tails.
pub record IsReplayed (index : Index) (committed : List CommittedLeaf) (buds : List BudText) (listed : List ℕ) (made : Replayed) : Type 0 where
  pub reads : List BudRead
  pub of_buds : map (λ x. x.bud) reads ≡ buds
  pub texts : AllByRecursion IsBudRead reads
  pub recovered : (parts : Parts) → AreParts parts reads index committed listed → contents (shape made.index.root) ≡ leaves (recovered_of parts).kept
  pub nodes : made.nodes ≡ length (journal_nodes_in reads)
  pub highest : made.highest ≡ highest_read committed reads
  pub sqnum : made.sqnum ≡ greatest_in 0 reads
  pub tails : made.tails.items ≡ map (λ x. x.tail) reads
