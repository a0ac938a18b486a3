-- The grammar of system nodes: bytes, and the sequence number, group type and node that they stand for.
use Rattle.std.specs.Prelude.{ℕ, ◌||◌, Bool, List, [], ⊤}
use Rattle.ubifs_base.specs.NodeType.{type_number}
use Rattle.ubifs_base.specs.declared.node_type.NodeType.{NodeType}
use Rattle.ubifs_base.specs.declared.node_type.NodeType.TheVariants as types
use Rattle.node_fields.specs.Fields.{Field}
use Rattle.node_fields.specs.Form.{Form, IsOf, written_as}
use Rattle.media_sys.specs.declared.commit_start.CommitStart.{CommitStart}
use Rattle.media_sys.specs.declared.idx_node.IdxNode.{IdxNode}
use Rattle.media_sys.specs.declared.master.Master.{Master}
use Rattle.media_sys.specs.declared.orph_node.OrphNode.{OrphNode}
use Rattle.media_sys.specs.declared.pad_node.PadNode.{PadNode}
use Rattle.media_sys.specs.declared.ref_node.RefNode.{RefNode}
use Rattle.media_sys.specs.declared.super_node.Super.{Super}
use Rattle.media_sys.specs.CommitStart.{commit_start_fields, is_commit_start}
use Rattle.media_sys.specs.Index.{Index, index_of, IsIdxNode, index_fields, is_index}
use Rattle.media_sys.specs.Master.{IsMasterNode, master_fields, is_master}
use Rattle.media_sys.specs.Orphans.{Orphans, orphans_of, IsOrphNode, orphan_fields, is_orphans}
use Rattle.media_sys.specs.Padding.{padding_fields, is_padding}
use Rattle.media_sys.specs.Reference.{reference_fields, is_reference}
use Rattle.media_sys.specs.Superblock.{IsSuperNode, super_fields, is_super}

-- the seven kinds of system node
pub data SystemNode : Type 0 where
  padding : PadNode → SystemNode
  superblock : Super → SystemNode
  master : Master → SystemNode
  reference : RefNode → SystemNode
  index : Index → SystemNode
  commit_start : CommitStart → SystemNode
  orphans : Orphans → SystemNode

-- its type
abbrev pub node_type : SystemNode → NodeType
node_type (padding node) = types.Padding
node_type (superblock node) = types.Superblock
node_type (master node) = types.Master
node_type (reference node) = types.Reference
node_type (index node) = types.Index
node_type (commit_start node) = types.CommitStart
node_type (orphans node) = types.Orphans

-- the type's number in the header
abbrev pub type_of : SystemNode → ℕ
type_of node = type_number (node_type node)

-- what follows the header
abbrev pub fields_of : SystemNode → List Field
fields_of (padding node) = padding_fields node
fields_of (superblock node) = super_fields node
fields_of (master node) = master_fields node
fields_of (reference node) = reference_fields node
fields_of (index node) = index_fields node
fields_of (commit_start node) = commit_start_fields node
fields_of (orphans node) = orphan_fields node

-- and nothing follows the fields
abbrev pub tail_of : SystemNode → List ℕ
tail_of node = []

-- what a node may say
abbrev pub IsSystem : SystemNode → Type 0
IsSystem (padding node) = ⊤
IsSystem (superblock node) = IsSuperNode node
IsSystem (master node) = IsMasterNode node
IsSystem (reference node) = ⊤
IsSystem (index node) = IsIdxNode node
IsSystem (commit_start node) = ⊤
IsSystem (orphans node) = IsOrphNode node

-- the family of system nodes
abbrev pub system_form : Form SystemNode
system_form = record { type_of = type_of; fields_of = fields_of; tail_of = tail_of; Allowed = IsSystem }

-- These bytes are this node, all of them. Ignored bytes may be anything.
abbrev pub IsSystemNode : List ℕ → ℕ → ℕ → SystemNode → Type 0
IsSystemNode bytes sqnum group node = IsOf system_form bytes sqnum group node

-- the bytes are this padding node
abbrev pub IsPad : List ℕ → ℕ → ℕ → PadNode → Type 0
IsPad bytes sqnum group node = IsSystemNode bytes sqnum group (padding node)

-- the bytes are this superblock
abbrev pub IsSuper : List ℕ → ℕ → ℕ → Super → Type 0
IsSuper bytes sqnum group node = IsSystemNode bytes sqnum group (superblock node)

-- the bytes are this master
abbrev pub IsMaster : List ℕ → ℕ → ℕ → Master → Type 0
IsMaster bytes sqnum group node = IsSystemNode bytes sqnum group (master node)

-- the bytes are this reference
abbrev pub IsRef : List ℕ → ℕ → ℕ → RefNode → Type 0
IsRef bytes sqnum group node = IsSystemNode bytes sqnum group (reference node)

-- the bytes are this index node
abbrev pub IsIdx : List ℕ → ℕ → ℕ → IdxNode → Type 0
IsIdx bytes sqnum group node = IsSystemNode bytes sqnum group (index (index_of node))

-- the bytes are this commit start
abbrev pub IsCommitStart : List ℕ → ℕ → ℕ → CommitStart → Type 0
IsCommitStart bytes sqnum group node = IsSystemNode bytes sqnum group (commit_start node)

-- the bytes are this orphan node
abbrev pub IsOrph : List ℕ → ℕ → ℕ → OrphNode → Type 0
IsOrph bytes sqnum group node = IsSystemNode bytes sqnum group (orphans (orphans_of node))

-- the one spelling that is written, in which all that is ignored is 0
abbrev pub written : ℕ → ℕ → SystemNode → List ℕ
written sqnum group node = written_as system_form sqnum group node

-- whether a type and a body are those of a system node
unfoldable pub is_system : ℕ → List ℕ → Bool
is_system kind body =
    is_padding kind body || (is_super kind body || (is_master kind body || (is_reference kind body || (is_index kind body || (is_commit_start kind body || is_orphans kind body)))))
