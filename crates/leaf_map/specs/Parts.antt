-- What a mount has read of a volume.
use Rattle.std.specs.Prelude.{ℕ, ◌==◌, ◌&&◌, nat_le, not, Bool, false, if◌then◌else◌, List, Option, Some, None}
use Rattle.std.specs.List.{list_any}
use Rattle.std.specs.Option.{option_map_or}
use Rattle.media_leaf.specs.LeafNode.{LeafNode, inode}
use Rattle.index_tree.specs.declared.leaf.Leaf.{Leaf}
use Rattle.index_tree.specs.Removal.{same_leaf}
use Rattle.fs_model.specs.declared.change.Change.{Change}
use Rattle.leaf_map.specs.After.{is_set}
use Rattle.leaf_map.specs.Kept.{Placed, kept_at, shown}

-- a leaf of the committed index, and the intact leaf node that stands at its place, if one does
pub record Committed : Type 0 where
  pub leaf : Leaf
  pub found : Option Placed

-- a reference of the log: it names a LEB for a head, from an offset on; a LEB may have several
pub record Named : Type 0 where
  pub head : ℕ
  pub lnum : ℕ
  pub from : ℕ

-- Nodes stand in the order in which the log first names their LEBs, and then in that of their offsets.
pub record Parts : Type 0 where
  -- the highest inode number that the master says
  pub highest : ℕ
  pub committed : List Committed
  pub named : List Named
  -- the nodes of whole groups of heads 1 and 2
  pub nodes : List Placed
  -- the nodes of head 0, each a copy that the collector made
  pub copies : List Placed
  -- the list of orphans
  pub listed : List ℕ

-- whether a LEB is named by the log
abbrev pub is_named : List Named → ℕ → Bool
is_named named lnum = list_any (λ b. b.lnum == lnum) named

-- whether a leaf's place is one of the journal's: what stands there is no original
abbrev pub in_bud : List Named → Leaf → Bool
in_bud named leaf = list_any (λ b. (b.lnum == leaf.lnum) && nat_le b.from leaf.offs) named

-- whether something is shown that a leaf may stand for
abbrev pub is_shown : Option Change → Bool
is_shown None = false
is_shown (Some change) = is_set change

-- whether a node that was found is a leaf's own: it has the leaf's key and length, and its place is none of the journal's
abbrev pub is_own : List Named → Leaf → Placed → Bool
is_own named leaf found = not (in_bud named leaf) && is_shown (shown found.node) && same_leaf leaf (kept_at found).leaf

-- the own node of a committed leaf, if it has one
abbrev pub own_node : List Named → Committed → Option Placed
own_node named x = by x.found
  where
    by : Option Placed → Option Placed
    by None = None
    by (Some found) = if is_own named x.leaf found then Some found else None

-- Whether an intact node of a leaf's key and length stands at its place, but shows nothing: an inode whose mode names no kind, or an entry of inode number 0.
abbrev pub shows_nothing : List Named → Committed → Bool
shows_nothing named x = by x.found
  where
    by : Option Placed → Bool
    by None = false
    by (Some found) = not (in_bud named x.leaf) && (not (is_shown (shown found.node)) && same_leaf x.leaf (kept_at found).leaf)

-- whether a node is that of this inode, and has links
abbrev pub has_links : ℕ → LeafNode → Bool
has_links ino (inode node) = (node.ino == ino) && not (node.nlink == 0)
has_links ino other = false

-- whether a committed leaf's node is that of this inode and has links, although its mode names no kind
abbrev pub is_linked_unknown : List Named → ℕ → Committed → Bool
is_linked_unknown named ino x = option_map_or (λ (found : Placed). has_links ino found.node) x.found false && shows_nothing named x
