-- What a mount makes of what it has read, in four steps (Hunter 2008, "The journal", "Garbage collection"; `ubifs_replay_journal` of Linux fs/ubifs).
use Rattle.std.specs.Prelude.{ℕ, ◌==◌, ◌&&◌, ◌||◌, nat_lt, not, is_some, Bool, false, if◌then◌else◌, max, List, [], ◌∷◌, ◌++◌, filter, fold, length, map, Option, Some, None}
use Rattle.std.specs.List.{find, list_all, list_any}
use Rattle.ubifs_base.specs.declared.key.Key.{Key}
use Rattle.ubifs_base.specs.declared.key.Key.TheVariants.{Ino, Block}
use Rattle.ubifs_base.specs.Key.{key_words}
use Rattle.media_leaf.specs.LeafNode.{LeafNode, inode, block}
use Rattle.index_tree.specs.declared.leaf.Leaf.{Leaf}
use Rattle.index_tree.specs.Order.{leaf_rank}
use Rattle.fs_model.specs.declared.change.Change.{Change}
use Rattle.fs_model.specs.declared.change.Change.TheVariants.{SetInode, DropInode}
use Rattle.fs_model.specs.Files.{Tree}
use Rattle.group_nodes.specs.Nodes.{gone_inode, inode_node}
use Rattle.leaf_map.specs.After.{is_gone, kept_after}
use Rattle.leaf_map.specs.Kept.{Kept, Placed, kept_at, node_key, shown, shown_by}
use Rattle.leaf_map.specs.LeafMap.{shows_same}
use Rattle.leaf_map.specs.Parts.{Committed, Named, Parts, is_linked_unknown, is_named, own_node}
use Rattle.leaf_map.specs.Shown.{tree_of}

-- ---- first, each leaf is found: at its own node, or at its copy
-- what stands for a node that nobody can read, or that shows nothing, until a later node takes its place: an inode without links, a block without a byte; a name can't be told
abbrev pub stand_in : Key → Option LeafNode
stand_in (Ino ino) = Some (inode (inode_node ino gone_inode))
stand_in (Block ino number) = Some (block (record { ino = ino; block = number; bytes = [] }))
stand_in key = None

-- the first of some copies that has a leaf's key
abbrev pub copy_of_key : Leaf → List Placed → Option Placed
copy_of_key leaf copies = find (λ c. leaf_rank (kept_at c).leaf == leaf_rank leaf) copies

-- the leaf that is found for a committed one, out of some copies
abbrev pub leaf_found_for : List Placed → Committed → Option Placed → List Kept
leaf_found_for copies x (Some own) = record { leaf = x.leaf; sqnum = own.sqnum; node = own.node } ∷ []
leaf_found_for copies x None = at_copy (copy_of_key x.leaf copies)
  where
    unread : Option LeafNode → List Kept
    unread None = []
    unread (Some node) = record { leaf = x.leaf; sqnum = 0; node = node } ∷ []

    at_copy : Option Placed → List Kept
    at_copy (Some copy) = kept_at copy ∷ []
    at_copy None = unread (stand_in x.leaf.key)

-- the copies that are left for the leaves behind it
abbrev pub copies_left : List Placed → Committed → Option Placed → List Placed
copies_left copies x (Some own) = copies
copies_left copies x None = by (copy_of_key x.leaf copies)
  where
    by : Option Placed → List Placed
    by None = copies
    by (Some copy) = filter (λ c. not (shows_same (shown copy.node) (shown c.node))) copies

-- the leaves, where these copies are to be had
abbrev pub found_leaves : List Named → List Placed → List Committed → List Kept
found_leaves named copies [] = []
found_leaves named copies (x ∷ committed) =
    leaf_found_for copies x (own_node named x) ++ found_leaves named (copies_left copies x (own_node named x)) committed

-- whether a leaf's own node shows what a copy shows
abbrev pub is_original : List Named → Placed → Committed → Bool
is_original named copy x = by (own_node named x)
  where
    by : Option Placed → Bool
    by None = false
    by (Some own) = shows_same (shown own.node) (shown copy.node)

-- the copies of what no own node shows: of a name of which a leaf is there, none is given to a leaf of the same hash
abbrev pub spare_copies : Parts → List Placed
spare_copies parts = filter (λ c. not (list_any (is_original parts.named c) parts.committed)) parts.copies

-- the committed leaves, each with its node
abbrev pub leaves_found : Parts → List Kept
leaves_found parts = found_leaves parts.named (spare_copies parts) parts.committed

-- ---- second, the nodes are applied in order of number
-- a node among others in order of number, behind those of its own number
abbrev pub placed_node : List Placed → Placed → List Placed
placed_node [] new = new ∷ []
placed_node (first ∷ nodes) new = if nat_lt new.sqnum first.sqnum then new ∷ first ∷ nodes else first ∷ placed_node nodes new

abbrev pub nodes_in_order : List Placed → List Placed
nodes_in_order nodes = fold placed_node [] nodes

-- the leaves after nodes
abbrev pub leaves_after : List Kept → List Placed → List Kept
leaves_after kept nodes = fold kept_after kept nodes

-- ---- third, the orphans go that are listed
-- The list without the inodes whose own node has links although nobody knows their kind: what stands for such a node has none.
abbrev pub listed_left : Parts → List ℕ
listed_left parts = filter (λ ino. not (list_any (is_linked_unknown parts.named ino) parts.committed)) parts.listed

-- whether an inode without links is shown
abbrev pub is_unlinked : ℕ → Option Change → Bool
is_unlinked ino (Some (SetInode other node)) = (other == ino) && (node.nlink == 0)
is_unlinked ino other = false

-- an inode of this number goes with its blocks, unless it has links again
abbrev pub without_orphan : List Kept → ℕ → List Kept
without_orphan kept ino = if list_any (λ x. is_unlinked ino (shown_by x)) kept then filter (λ x. not (is_gone (DropInode ino) x)) kept else kept

-- ---- fourth, originals or copies: by LEB
-- the copy of a leaf's node, which has its number
abbrev pub copy_of_leaf : List Placed → Kept → Option Placed
copy_of_leaf copies x = find (λ c. (c.sqnum == x.sqnum) && shows_same (shown_by x) (shown c.node)) copies

-- whether each leaf of a LEB has a copy
abbrev pub is_copied : List Placed → List Kept → ℕ → Bool
is_copied copies kept lnum = list_all (λ x. not (x.leaf.lnum == lnum) || is_some (copy_of_leaf copies x)) kept

-- a leaf at its copy, if it has one
abbrev pub at_copy : List Placed → Kept → Kept
at_copy copies x = by (copy_of_leaf copies x)
  where
    by : Option Placed → Kept
    by None = x
    by (Some copy) = record x { leaf = (kept_at copy).leaf }

-- the leaves of a LEB that is no bud stand at their copies if each of them has one, and else at their originals
abbrev pub moved_to_its_copy : Parts → List Kept → Kept → Kept
moved_to_its_copy parts kept x = if not (is_named parts.named x.leaf.lnum) && is_copied parts.copies kept x.leaf.lnum then at_copy parts.copies x else x

-- ---- all of it
-- the highest inode number in keys
abbrev pub highest_key : ℕ → List Key → ℕ
highest_key highest keys = fold (λ n key. max n (key_words key).0) highest keys

-- what a mount makes of what it has read: leaves, the highest number that was ever used, and how many nodes it applied
pub record Recovered : Type 0 where
  pub kept : List Kept
  pub highest : ℕ
  pub nodes : ℕ

-- the leaves after the third step
abbrev pub leaves_left : Parts → List Kept
leaves_left parts = fold without_orphan (leaves_after (leaves_found parts) (nodes_in_order parts.nodes)) (listed_left parts)

-- the highest number of the committed index
abbrev pub committed_highest : Parts → ℕ
committed_highest parts = highest_key parts.highest (map (λ x. x.leaf.key) parts.committed)

abbrev pub recovered_of : Parts → Recovered
recovered_of parts =
    let left = leaves_left parts in
    record {
      kept = map (moved_to_its_copy parts left) left;
      highest = highest_key (committed_highest parts) (map (λ x. node_key x.node) (nodes_in_order parts.nodes));
      nodes = length parts.nodes;
    }

-- the tree that it shows
abbrev pub tree_found : Parts → Tree
tree_found parts = tree_of (recovered_of parts).kept (recovered_of parts).highest
