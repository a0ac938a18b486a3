-- What a leaf node says, without its data.
use Rattle.std.specs.Prelude.{ℕ, ◌==◌, not, is_some, true, if◌then◌else◌, max, List, fold}
use Rattle.ubifs_base.specs.Key.{key_words}
use Rattle.ubifs_base.specs.R5.{r5_of}
use Rattle.ubifs_base.specs.declared.key.Key.TheVariants.{Ino, Xent}
use Rattle.media_leaf.specs.LeafNode.{LeafNode, inode, block, entry, truncation}
use Rattle.media_leaf.specs.declared.dent_node.DentNode.{DentNode}
use Rattle.media_leaf.specs.declared.ino_node.InoNode.{InoNode}
use Rattle.leaf_map.specs.Kept.{Placed, bits_of, kind_of_bits}
use Rattle.journal_scan.specs.declared.node_content.NodeContent.{NodeContent}
use Rattle.journal_scan.specs.declared.node_content.NodeContent.TheVariants.{Inode, Block, Entry, Truncation, Unknown}
use Rattle.journal_scan.specs.declared.journal_node.JournalNode.{JournalNode}

-- what is told of an inode's node: its number, and whether it has links; where its mode names no kind, its key
abbrev pub inode_content : InoNode → NodeContent
inode_content node = if is_some (kind_of_bits (bits_of node.mode)) then Inode node.ino (not (node.nlink == 0)) else Unknown (Ino node.ino) (not (node.nlink == 0))

-- what is told of an entry's node: its directory and name, and whether an inode stands for the name; of an attribute its key
abbrev pub entry_content : DentNode → NodeContent
entry_content node = if node.attribute then Unknown (Xent node.dir (r5_of node.name)) true else Entry node.dir node.name (not (node.inum == 0))

-- what is told of a leaf node: all but the data, the attributes and the inode that a name stands for
abbrev pub node_content_of : LeafNode → NodeContent
node_content_of (inode node) = inode_content node
node_content_of (block node) = Block node.ino node.block
node_content_of (entry node) = entry_content node
node_content_of (truncation node) = Truncation node.ino node.new_size

-- the inode number of the key of a node of which this is told
abbrev pub number_told : NodeContent → ℕ
number_told (Inode ino linked) = ino
number_told (Block ino number) = ino
number_told (Entry dir name linked) = dir
number_told (Truncation ino new_size) = ino
number_told (Unknown key linked) = (key_words key).0

-- the greatest of these numbers, or 0
abbrev pub highest_told : List JournalNode → ℕ
highest_told nodes = fold (λ n x. max n (number_told x.content)) 0 nodes

-- what is told of a leaf node where it stands
abbrev pub told : Placed → JournalNode
told x = record { content = node_content_of x.node; sqnum = x.sqnum; lnum = x.lnum; offs = x.offs; len = x.len }
