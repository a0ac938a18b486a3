-- The committed leaves as they are read, by what is told of them.
use Rattle.std.specs.Prelude.{ℕ, ◌&&◌, not, Bool, true, false, if◌then◌else◌, Option, Some, None}
use Rattle.std.specs.BTreeMap.{BTreeMap}
use Rattle.ubifs_base.specs.declared.key.Key.{Key}
use Rattle.ubifs_base.specs.declared.key.Key.TheVariants.{Ino, Block as BlockKey}
use Rattle.index_tree.specs.declared.leaf.Leaf.{Leaf}
use Rattle.index_tree.specs.Order.{leaf_rank}
use Rattle.journal_scan.specs.declared.node_content.NodeContent.TheVariants.{Inode, Block}
use Rattle.journal_scan.specs.declared.journal_node.JournalNode.{JournalNode}
use Rattle.log_replay.specs.declared.committed_leaf.CommittedLeaf.{CommittedLeaf}
use Rattle.log_replay.specs.declared.read_leaf.ReadLeaf.{ReadLeaf}
use Rattle.log_replay.specs.Copies.{at_rank, copy_place, Ranked}
use Rattle.log_replay.specs.Named.{in_named}
use Rattle.log_replay.specs.Things.{is_at_leaf}

-- the own node of a leaf, if what stands at its place is one
abbrev pub own_told : BTreeMap ℕ ℕ → CommittedLeaf → Option JournalNode
own_told named x = by x.found
  where
    by : Option JournalNode → Option JournalNode
    by None = None
    by (Some node) = if not (in_named named x.leaf) && is_at_leaf x.leaf node then Some node else None

-- what stands for a node that nobody can read: an inode without links, or a block; a name can't be told
abbrev pub stand_in_told : Leaf → Option JournalNode
stand_in_told leaf = by leaf.key
  where
    by : Key → Option JournalNode
    by (Ino ino) = Some (record { content = Inode ino false; sqnum = 0; lnum = leaf.lnum; offs = leaf.offs; len = leaf.len })
    by (BlockKey ino number) = Some (record { content = Block ino number; sqnum = 0; lnum = leaf.lnum; offs = leaf.offs; len = leaf.len })
    by other = None

-- a leaf that is read with this node
abbrev pub with_told : Ranked → Leaf → Bool → Option JournalNode → ReadLeaf
with_told ranked leaf own None = record { leaf = leaf; is_own = own; node = None; copy = None }
with_told ranked leaf own (Some node) = record { leaf = leaf; is_own = own; node = Some node; copy = copy_place node (at_rank ranked (leaf_rank leaf)) }

-- a leaf whose node nobody can read
abbrev pub unread_told : Ranked → Leaf → ReadLeaf
unread_told ranked leaf = with_told ranked leaf false (stand_in_told leaf)

-- a leaf as it is read
abbrev pub read_told : BTreeMap ℕ ℕ → Ranked → CommittedLeaf → ReadLeaf
read_told named ranked x = by (own_told named x)
  where
    by : Option JournalNode → ReadLeaf
    by None = unread_told ranked x.leaf
    by (Some node) = with_told ranked x.leaf true (Some node)
