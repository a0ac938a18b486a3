-- What is told of nodes of the grammar can be applied.
use Rattle.std.proofs.Common.{Bool, true, false, cond, not, List, [], ◌∷◌, map, sym, subst}
use Rattle.std.specs.Prelude.{◌==◌, is_some}
use Rattle.std.specs.List.{AllByRecursion}
use Rattle.ubifs_base.specs.R5.{r5_of}
use Rattle.ubifs_base.specs.declared.key.Key.TheVariants.{Ino, Xent}
use Rattle.media_leaf.specs.LeafNode.{LeafNode, IsLeaf, inode, block, entry, truncation}
use Rattle.group_nodes.specs.Nodes.{bits_of, kind_of_bits}
use Rattle.leaf_map.specs.Kept.{Placed}
use Rattle.leaf_map.specs.Recovered.{nodes_in_order}
use Rattle.journal_scan.specs.Content.{node_content_of, told}
use Rattle.journal_scan.specs.Journal.{BudRead, IsBudRead, IsJournalRead, journal_nodes_in}
use Rattle.journal_scan.specs.declared.bud_text.BudText.{BudText}
use Rattle.journal_scan.specs.declared.journal_node.JournalNode.{JournalNode}
use Rattle.journal_scan.specs.declared.journal_read.JournalRead.{JournalRead}
use Rattle.journal_scan.specs.declared.node_content.NodeContent.{NodeContent}
use Rattle.journal_scan.specs.declared.node_content.NodeContent.TheVariants.{Inode, Entry, Unknown}
use Rattle.log_replay.specs.Changes.{HasBlockKey}
use Rattle.log_replay.proofs.Places.{order_all}

-- a node of this content
abbrev with_content : Placed → NodeContent → JournalNode
with_content x content = record { content = content; sqnum = x.sqnum; lnum = x.lnum; offs = x.offs; len = x.len }

either : (x : Placed) (c : Bool) (a b : NodeContent) → HasBlockKey (with_content x a) → HasBlockKey (with_content x b) → HasBlockKey (with_content x (cond c a b))
either x true a b h k = h
either x false a b h k = k

has_key : (x : Placed) (node : LeafNode) → IsLeaf node → HasBlockKey (with_content x (node_content_of node))
has_key x (inode node) leaf = either x (is_some (kind_of_bits (bits_of node.mode))) (Inode node.ino (not (node.nlink == 0))) (Unknown (Ino node.ino) (not (node.nlink == 0))) tt tt
has_key x (block node) leaf = leaf.block_fits
has_key x (entry node) leaf = either x node.attribute (Unknown (Xent node.dir (r5_of node.name)) true) (Entry node.dir node.name (not (node.inum == 0))) tt tt
has_key x (truncation node) leaf = tt

have_keys : (xs : List Placed) → AllByRecursion (λ x. IsLeaf x.node) xs → AllByRecursion HasBlockKey (map told xs)
have_keys [] a = tt
have_keys (x ∷ xs) a = (has_key x x.node a.0, have_keys xs a.1)

pub can_be_applied : ((reads : List BudRead) → AllByRecursion IsBudRead reads → AllByRecursion (λ x. IsLeaf x.node) (journal_nodes_in reads))
    → (buds : List BudText) (read : JournalRead) → IsJournalRead buds read → AllByRecursion HasBlockKey read.nodes.items
can_be_applied law buds read is =
    subst (AllByRecursion HasBlockKey) (sym is.nodes) (have_keys (nodes_in_order (journal_nodes_in is.reads)) (order_all (λ x. IsLeaf x.node) (journal_nodes_in is.reads) (law is.reads is.texts)))
