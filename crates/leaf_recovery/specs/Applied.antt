-- The second and the third step of recovery, by what is told: nodes of the journal, and listed orphans.
use Rattle.std.specs.Prelude.{ℕ, suc, ◌==◌, ◌&&◌, ◌||◌, nat_le, nat_lt, not, false, if◌then◌else◌, Bool, List, [], ◌∷◌, Option, Some, None, filter, fold, slice_get}
use Rattle.std.specs.List.{list_any}
use Rattle.ubifs_base.specs.declared.key.Key.TheVariants.{Ino}
use Rattle.media_sys.specs.declared.ref_node.RefNode.{RefNode}
use Rattle.index_tree.specs.Order.{leaf_rank}
use Rattle.journal_scan.specs.declared.node_content.NodeContent.{NodeContent}
use Rattle.journal_scan.specs.declared.node_content.NodeContent.TheVariants.{Unknown}
use Rattle.journal_scan.specs.declared.journal_node.JournalNode.{JournalNode}
use Rattle.log_replay.specs.declared.committed_leaf.CommittedLeaf.{CommittedLeaf}
use Rattle.leaf_recovery.specs.declared.recovered_leaf.RecoveredLeaf.{RecoveredLeaf}
use Rattle.leaf_recovery.specs.Found.{leaf_at_node}
use Rattle.leaf_recovery.specs.Lost.{is_nothing_told}
use Rattle.leaf_recovery.specs.Things.{becomes_leaf, ends_told, is_idle_told, is_part_told, is_unlinked_told}

-- a leaf in the place of the one that its node makes obsolete, or else behind all leaves whose key isn't greater
abbrev pub put_leaf_told : NodeContent → RecoveredLeaf → List RecoveredLeaf → List RecoveredLeaf
put_leaf_told content new [] = new ∷ []
put_leaf_told content new (x ∷ kept) =
    if ends_told content x.content then new ∷ kept
    else if nat_le (leaf_rank x.leaf) (leaf_rank new.leaf) then x ∷ put_leaf_told content new kept
    else new ∷ x ∷ kept

-- how many leaves stand before the first that a node makes obsolete or whose key is greater
abbrev pub put_place_told : NodeContent → ℕ → List RecoveredLeaf → ℕ
put_place_told content rank [] = 0
put_place_told content rank (x ∷ kept) =
    if ends_told content x.content || nat_lt rank (leaf_rank x.leaf) then 0
    else suc (put_place_told content rank kept)

-- whether a node makes the leaf obsolete that stands at this place among leaves
abbrev pub ends_at_told : NodeContent → ℕ → List RecoveredLeaf → Bool
ends_at_told content place kept = by (slice_get kept place)
  where
    by : Option RecoveredLeaf → Bool
    by None = false
    by (Some x) = ends_told content x.content

-- the leaves without those that a node makes obsolete
abbrev pub without_ended : NodeContent → List RecoveredLeaf → List RecoveredLeaf
without_ended content kept = filter (λ x. not (ends_told content x.content)) kept

-- what a node makes of the leaves
abbrev pub kept_after_told : List RecoveredLeaf → JournalNode → List RecoveredLeaf
kept_after_told kept node =
    if is_idle_told kept node.content then kept
    else if becomes_leaf node.content then put_leaf_told node.content (leaf_at_node node) kept
    else without_ended node.content kept

-- the leaves without an inode and its blocks
abbrev pub without_parts : ℕ → List RecoveredLeaf → List RecoveredLeaf
without_parts ino kept = filter (λ x. not (is_part_told ino x.content)) kept

-- an inode of this number goes with its blocks, unless it has links again
abbrev pub without_orphan_told : List RecoveredLeaf → ℕ → List RecoveredLeaf
without_orphan_told kept ino = if list_any (λ x. is_unlinked_told ino x.content) kept then without_parts ino kept else kept

-- whether a node is that of this inode, of no known kind, and has links
abbrev pub is_unknown_told : ℕ → NodeContent → Bool
is_unknown_told ino (Unknown (Ino other) linked) = (other == ino) && linked
is_unknown_told ino other = false

-- whether a committed leaf's own node is that of this inode and has links, although its mode names no kind
abbrev pub is_spared_by : List RefNode → ℕ → CommittedLeaf → Bool
is_spared_by references ino x = by x.found
  where
    by : Option JournalNode → Bool
    by None = false
    by (Some node) = is_unknown_told ino node.content && is_nothing_told references x.leaf node

-- the list without such inodes
abbrev pub listed_left_told : List RefNode → List CommittedLeaf → List ℕ → List ℕ
listed_left_told references committed listed = filter (λ ino. not (list_any (is_spared_by references ino) committed)) listed

-- the leaves after nodes and without listed orphans
abbrev pub leaves_left_told : List RecoveredLeaf → List JournalNode → List ℕ → List RecoveredLeaf
leaves_left_told found nodes listed = fold without_orphan_told (fold kept_after_told found nodes) listed
