-- The grammar of leaf nodes: bytes, and the sequence number, group type and node that they stand for.
use Rattle.std.specs.Prelude.{ℕ, List, [], ⊤}
use Rattle.media_leaf.specs.declared.data_node.DataNode.{DataNode}
use Rattle.media_leaf.specs.declared.dent_node.DentNode.{DentNode}
use Rattle.media_leaf.specs.declared.ino_node.InoNode.{InoNode}
use Rattle.media_leaf.specs.declared.trun_node.TrunNode.{TrunNode}
use Rattle.ubifs_base.specs.NodeType.{type_number}
use Rattle.ubifs_base.specs.declared.node_type.NodeType.TheVariants as types
use Rattle.node_fields.specs.Fields.{Field}
use Rattle.node_fields.specs.Form.{Form, IsOf, written_as}
use Rattle.media_leaf.specs.Data.{IsDataNode, data_fields}
use Rattle.media_leaf.specs.Entry.{IsDentNode, entry_fields, entry_tail, entry_type}
use Rattle.media_leaf.specs.Inode.{IsInoNode, inode_fields}
use Rattle.media_leaf.specs.Truncation.{truncation_fields}

-- the four kinds of leaf
pub data LeafNode : Type 0 where
  inode : InoNode → LeafNode
  block : DataNode → LeafNode
  entry : DentNode → LeafNode
  truncation : TrunNode → LeafNode

-- the number of its type in the header
abbrev pub type_of : LeafNode → ℕ
type_of (inode node) = type_number types.Inode
type_of (block node) = type_number types.Data
type_of (entry node) = entry_type node
type_of (truncation node) = type_number types.Truncation

-- what follows the header
abbrev pub fields_of : LeafNode → List Field
fields_of (inode node) = inode_fields node
fields_of (block node) = data_fields node
fields_of (entry node) = entry_fields node
fields_of (truncation node) = truncation_fields node

-- and what follows the fields
abbrev pub tail_of : LeafNode → List ℕ
tail_of (inode node) = node.bytes
tail_of (block node) = node.bytes
tail_of (entry node) = entry_tail node
tail_of (truncation node) = []

-- what a node may say
abbrev pub IsLeaf : LeafNode → Type 0
IsLeaf (inode node) = IsInoNode node
IsLeaf (block node) = IsDataNode node
IsLeaf (entry node) = IsDentNode node
IsLeaf (truncation node) = ⊤

-- the family of leaf nodes
abbrev pub leaf_form : Form LeafNode
leaf_form = record { type_of = type_of; fields_of = fields_of; tail_of = tail_of; Allowed = IsLeaf }

-- These bytes are this node, all of them. Ignored bytes may be anything.
abbrev pub IsLeafNode : List ℕ → ℕ → ℕ → LeafNode → Type 0
IsLeafNode bytes sqnum group node = IsOf leaf_form bytes sqnum group node

-- the bytes are this inode
abbrev pub IsIno : List ℕ → ℕ → ℕ → InoNode → Type 0
IsIno bytes sqnum group node = IsLeafNode bytes sqnum group (inode node)

-- the bytes are this block of a file
abbrev pub IsData : List ℕ → ℕ → ℕ → DataNode → Type 0
IsData bytes sqnum group node = IsLeafNode bytes sqnum group (block node)

-- the bytes are this entry
abbrev pub IsDent : List ℕ → ℕ → ℕ → DentNode → Type 0
IsDent bytes sqnum group node = IsLeafNode bytes sqnum group (entry node)

-- the bytes are this truncation
abbrev pub IsTrun : List ℕ → ℕ → ℕ → TrunNode → Type 0
IsTrun bytes sqnum group node = IsLeafNode bytes sqnum group (truncation node)

-- the one spelling that is written, in which all that is ignored is 0
abbrev pub written : ℕ → ℕ → LeafNode → List ℕ
written sqnum group node = written_as leaf_form sqnum group node
