-- The first step of recovery, by what is told: each committed leaf is found at its own node, or at its copy.
use Rattle.std.specs.Prelude.{◌==◌, ◌&&◌, not, is_some, Bool, false, if◌then◌else◌, List, [], ◌∷◌, ◌++◌, filter, Option, Some, None}
use Rattle.std.specs.List.{cons_option, find, list_any}
use Rattle.ubifs_base.specs.declared.key.Key.{Key}
use Rattle.ubifs_base.specs.declared.key.Key.TheVariants.{Ino, Block as BlockKey}
use Rattle.media_sys.specs.declared.ref_node.RefNode.{RefNode}
use Rattle.index_tree.specs.declared.leaf.Leaf.{Leaf}
use Rattle.index_tree.specs.Order.{leaf_rank}
use Rattle.index_tree.specs.Removal.{same_leaf}
use Rattle.journal_scan.specs.declared.node_content.NodeContent.TheVariants.{Inode, Block}
use Rattle.journal_scan.specs.declared.journal_node.JournalNode.{JournalNode}
use Rattle.log_replay.specs.declared.committed_leaf.CommittedLeaf.{CommittedLeaf}
use Rattle.leaf_recovery.specs.declared.recovered_leaf.Place.{Place}
use Rattle.leaf_recovery.specs.declared.recovered_leaf.RecoveredLeaf.{RecoveredLeaf}
use Rattle.leaf_recovery.specs.Named.{in_bud_told}
use Rattle.leaf_recovery.specs.Things.{leaf_told, shows_thing, shows_told}

-- where a node stands
abbrev pub place_told : JournalNode → Place
place_told node = record { lnum = node.lnum; offs = node.offs; len = node.len }

-- a leaf whose node was read
abbrev pub leaf_read : Leaf → JournalNode → RecoveredLeaf
leaf_read leaf node = record { leaf = leaf; content = node.content; sqnum = node.sqnum; source = Some (place_told node) }

-- the leaf that a node becomes where it stands
abbrev pub leaf_at_node : JournalNode → RecoveredLeaf
leaf_at_node node = leaf_read (leaf_told node) node

-- whether a node is a leaf's own
abbrev pub is_own_told : List RefNode → Leaf → JournalNode → Bool
is_own_told references leaf node = not (in_bud_told references leaf) && shows_thing node.content && same_leaf leaf (leaf_told node)

-- the own node of a committed leaf, if it has one
abbrev pub own_node_told : List RefNode → CommittedLeaf → Option JournalNode
own_node_told references x = by x.found
  where
    by : Option JournalNode → Option JournalNode
    by None = None
    by (Some node) = if is_own_told references x.leaf node then Some node else None

-- whether a leaf's own node shows what a copy shows
abbrev pub is_original_told : List RefNode → JournalNode → CommittedLeaf → Bool
is_original_told references copy x = by x.found
  where
    by : Option JournalNode → Bool
    by None = false
    by (Some node) = shows_told node.content copy.content && is_own_told references x.leaf node

-- the copies of what no own node shows
abbrev pub spare_copies_told : List RefNode → List CommittedLeaf → List JournalNode → List JournalNode
spare_copies_told references committed copies = filter (λ c. not (list_any (is_original_told references c) committed)) copies

-- the first of some copies that has a leaf's key
abbrev pub copy_of_key_told : Leaf → List JournalNode → Option JournalNode
copy_of_key_told leaf copies = find (λ c. leaf_rank (leaf_told c) == leaf_rank leaf) copies

-- a leaf whose node nobody can read: an inode without links, or a block; a name can't be told
abbrev pub unread_leaf : Leaf → Option RecoveredLeaf
unread_leaf leaf = by leaf.key
  where
    by : Key → Option RecoveredLeaf
    by (Ino ino) = Some (record { leaf = leaf; content = Inode ino false; sqnum = 0; source = None })
    by (BlockKey ino number) = Some (record { leaf = leaf; content = Block ino number; sqnum = 0; source = None })
    by other = None

-- a leaf at its copy, if it has one
abbrev pub leaf_at_copy : Leaf → Option JournalNode → Option RecoveredLeaf
leaf_at_copy leaf None = unread_leaf leaf
leaf_at_copy leaf (Some copy) = Some (leaf_at_node copy)

-- the leaf that is found for a committed one, out of some copies
abbrev pub leaf_found_told : List JournalNode → CommittedLeaf → Option JournalNode → Option RecoveredLeaf
leaf_found_told copies x (Some own) = Some (leaf_read x.leaf own)
leaf_found_told copies x None = leaf_at_copy x.leaf (copy_of_key_told x.leaf copies)

-- the copies that are left where this one was given to a leaf
abbrev pub left_behind : Option JournalNode → List JournalNode → List JournalNode
left_behind None copies = copies
left_behind (Some copy) copies = filter (λ c. not (shows_told copy.content c.content)) copies

-- the copies that are left for the leaves behind one
abbrev pub copies_left_told : List JournalNode → CommittedLeaf → Option JournalNode → List JournalNode
copies_left_told copies x (Some own) = copies
copies_left_told copies x None = left_behind (copy_of_key_told x.leaf copies) copies

-- the leaves, where these copies are to be had
abbrev pub found_leaves_told : List RefNode → List JournalNode → List CommittedLeaf → List RecoveredLeaf
found_leaves_told references copies [] = []
found_leaves_told references copies (x ∷ committed) =
    cons_option (leaf_found_told copies x (own_node_told references x)) (found_leaves_told references (copies_left_told copies x (own_node_told references x)) committed)

-- the committed leaves that aren't found
abbrev pub lost_leaves_told : List RefNode → List JournalNode → List CommittedLeaf → List CommittedLeaf
lost_leaves_told references copies [] = []
lost_leaves_told references copies (x ∷ committed) =
    (if is_some (leaf_found_told copies x (own_node_told references x)) then [] else x ∷ []) ++ lost_leaves_told references (copies_left_told copies x (own_node_told references x)) committed
