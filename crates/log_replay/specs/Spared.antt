-- Which listed inodes may go: those whose own node has links although its mode names no kind are spared.
use Rattle.std.specs.Prelude.{ℕ, ◌&&◌, not, Bool, true, false, if◌then◌else◌, List, filter, Option, Some, None}
use Rattle.std.specs.BTreeMap.{BTreeMap, is_at}
use Rattle.std.specs.List.{list_any}
use Rattle.std.specs.Option.{option_map_or}
use Rattle.std.specs.Ordering.{nat_cmp}
use Rattle.ubifs_base.specs.declared.key.Key.TheVariants.{Ino}
use Rattle.index_tree.specs.Removal.{same_leaf}
use Rattle.journal_scan.specs.declared.node_content.NodeContent.{NodeContent}
use Rattle.journal_scan.specs.declared.node_content.NodeContent.TheVariants.{Unknown}
use Rattle.journal_scan.specs.declared.journal_node.JournalNode.{JournalNode}
use Rattle.log_replay.specs.declared.committed_leaf.CommittedLeaf.{CommittedLeaf}
use Rattle.log_replay.specs.Changes.{place_of_node}
use Rattle.log_replay.specs.Named.{in_named}
use Rattle.log_replay.specs.Standing.{leaf_of_key}

-- the inode that has links by a node of which this is told, but no known kind
abbrev pub unknown_inode : NodeContent → Option ℕ
unknown_inode (Unknown (Ino ino) true) = Some ino
unknown_inode content = None

-- the inode of which a leaf's own node says so
abbrev pub spared_by : BTreeMap ℕ ℕ → CommittedLeaf → Option ℕ
spared_by named x = by x.found
  where
    at : JournalNode → Option ℕ → Option ℕ
    at node None = None
    at node (Some ino) = if not (in_named named x.leaf) && same_leaf x.leaf (leaf_of_key (Ino ino) (place_of_node node)) then Some ino else None

    by : Option JournalNode → Option ℕ
    by None = None
    by (Some node) = at node (unknown_inode node.content)

-- whether it is this inode
abbrev pub is_spared_by_map : BTreeMap ℕ ℕ → ℕ → CommittedLeaf → Bool
is_spared_by_map named ino x = option_map_or (λ spared. is_at (nat_cmp spared) ino) (spared_by named x) false

-- the list without the inodes that are spared
abbrev pub unspared : BTreeMap ℕ ℕ → List CommittedLeaf → List ℕ → List ℕ
unspared named leaves listed = filter (λ ino. not (list_any (is_spared_by_map named ino) leaves)) listed
