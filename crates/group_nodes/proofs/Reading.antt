-- What is read of bytes is what their node carries.
use Rattle.std.proofs.Common.{◌≡◌, ℕ, ◌≤◌, ◌⊎◌, inl, inr, Bool, true, false, List, Option, Some, None, IfSome, IfNone, slice_index, sym, ◌∙◌, ap, subst, arith}
use Rattle.std.specs.Prelude.{if◌then◌else◌}
use Rattle.ubifs_base.specs.NodeLaws.{IsBytes}
use Rattle.node_fields.specs.FormLaws.{body_in}
use Rattle.media_leaf.specs.LeafNode.{LeafNode, inode, block, entry, truncation, leaf_form, type_of, IsLeafNode}
use Rattle.media_leaf.specs.declared.data_node.DataNode.{DataNode}
use Rattle.media_leaf.specs.declared.dent_node.DentNode.{DentNode}
use Rattle.media_leaf.specs.declared.ino_node.InoNode.{InoNode}
use Rattle.media_leaf.specs.declared.trun_node.TrunNode.{TrunNode}
use Rattle.fs_model.specs.declared.change.Change.{Change}
use Rattle.group_nodes.specs.Nodes.{IsChangeReadOf, change_of}

-- bytes are at most one node
abbrev pub OneNode : Type 0
OneNode = (bytes : List ℕ) (s1 g1 s2 g2 : ℕ) (n1 n2 : LeafNode) → IsBytes bytes → IsLeafNode bytes s1 g1 n1 → IsLeafNode bytes s2 g2 n2 → (s1 ≡ s2) × (g1 ≡ g2) × (n1 ≡ n2)

-- the bytes are this node
abbrev pub Are : List ℕ → LeafNode → Type 0
Are bytes node = (sqnum : ℕ) × (group : ℕ) × IsLeafNode bytes sqnum group node

some_of : (bytes : List ℕ) (read : Option Change) (node : LeafNode) → Are bytes node → read ≡ change_of node
    → IfSome read (λ change. (sqnum : ℕ) × (group : ℕ) × (node : LeafNode) × IsLeafNode bytes sqnum group node × (change_of node ≡ Some change))
some_of bytes None node h is = tt
some_of bytes (Some change) node h is = (h.0, h.1, node, h.2, sym is)

-- what the node carries is read
pub read_of : OneNode → (bytes : List ℕ) (read : Option Change) (node : LeafNode) → IsBytes bytes → Are bytes node → read ≡ change_of node → IsChangeReadOf bytes read
read_of law bytes read node fits h is = record {
  exact = λ sqnum group other there. is ∙ ap change_of (law bytes h.0 h.1 sqnum group node other fits h.2 there).2;
  some = some_of bytes read node h is;
}

-- where there is no node nothing is read
none_read : (bytes : List ℕ) → ((sqnum group : ℕ) (node : LeafNode) → IsLeafNode bytes sqnum group node → ⊥) → IsChangeReadOf bytes None
none_read bytes none = record { exact = λ sqnum group node h. absurd (none sqnum group node h); some = tt }

-- ---- by the type in the header
kind_is : (bytes : List ℕ) (sqnum group : ℕ) (node : LeafNode) → IsBytes bytes → IsLeafNode bytes sqnum group node → slice_index bytes 20 ≡ type_of node
kind_is bytes sqnum group node fits h = (body_in leaf_form bytes sqnum group node fits h).kind_is

two_or_three : (attribute : Bool) → let kind : ℕ = if attribute then 3 else 2 in (2 ≤ kind) × (kind ≤ 3)
two_or_three true = (omega arith, omega arith)
two_or_three false = (omega arith, omega arith)

-- a node's type is at most 4, and 2 or 3 that of an entry
only_leaves : (bytes : List ℕ) → IsBytes bytes → 5 ≤ slice_index bytes 20 → (sqnum group : ℕ) (node : LeafNode) → IsLeafNode bytes sqnum group node → ⊥
only_leaves bytes fits kind sqnum group (inode node) h = let k = kind_is bytes sqnum group (inode node) fits h in absurd (omega (arith, kind, k))
only_leaves bytes fits kind sqnum group (block node) h = let k = kind_is bytes sqnum group (block node) fits h in absurd (omega (arith, kind, k))
only_leaves bytes fits kind sqnum group (entry node) h = let k = kind_is bytes sqnum group (entry node) fits h in let e = two_or_three node.attribute in absurd (omega (arith, kind, k, e))
only_leaves bytes fits kind sqnum group (truncation node) h = let k = kind_is bytes sqnum group (truncation node) fits h in absurd (omega (arith, kind, k))

only_inodes : (bytes : List ℕ) → IsBytes bytes → slice_index bytes 20 ≡ 0 → ((sqnum group : ℕ) (node : InoNode) → IsLeafNode bytes sqnum group (inode node) → ⊥)
    → (sqnum group : ℕ) (node : LeafNode) → IsLeafNode bytes sqnum group node → ⊥
only_inodes bytes fits kind none sqnum group (inode node) h = none sqnum group node h
only_inodes bytes fits kind none sqnum group (block node) h = let k = kind_is bytes sqnum group (block node) fits h in absurd (omega (arith, kind, k))
only_inodes bytes fits kind none sqnum group (entry node) h = let k = kind_is bytes sqnum group (entry node) fits h in let e = two_or_three node.attribute in absurd (omega (arith, kind, k, e))
only_inodes bytes fits kind none sqnum group (truncation node) h = let k = kind_is bytes sqnum group (truncation node) fits h in absurd (omega (arith, kind, k))

only_blocks : (bytes : List ℕ) → IsBytes bytes → slice_index bytes 20 ≡ 1 → ((sqnum group : ℕ) (node : DataNode) → IsLeafNode bytes sqnum group (block node) → ⊥)
    → (sqnum group : ℕ) (node : LeafNode) → IsLeafNode bytes sqnum group node → ⊥
only_blocks bytes fits kind none sqnum group (inode node) h = let k = kind_is bytes sqnum group (inode node) fits h in absurd (omega (arith, kind, k))
only_blocks bytes fits kind none sqnum group (block node) h = none sqnum group node h
only_blocks bytes fits kind none sqnum group (entry node) h = let k = kind_is bytes sqnum group (entry node) fits h in let e = two_or_three node.attribute in absurd (omega (arith, kind, k, e))
only_blocks bytes fits kind none sqnum group (truncation node) h = let k = kind_is bytes sqnum group (truncation node) fits h in absurd (omega (arith, kind, k))

only_truncations : (bytes : List ℕ) → IsBytes bytes → slice_index bytes 20 ≡ 4 → ((sqnum group : ℕ) (node : TrunNode) → IsLeafNode bytes sqnum group (truncation node) → ⊥)
    → (sqnum group : ℕ) (node : LeafNode) → IsLeafNode bytes sqnum group node → ⊥
only_truncations bytes fits kind none sqnum group (inode node) h = let k = kind_is bytes sqnum group (inode node) fits h in absurd (omega (arith, kind, k))
only_truncations bytes fits kind none sqnum group (block node) h = let k = kind_is bytes sqnum group (block node) fits h in absurd (omega (arith, kind, k))
only_truncations bytes fits kind none sqnum group (entry node) h = let k = kind_is bytes sqnum group (entry node) fits h in let e = two_or_three node.attribute in absurd (omega (arith, kind, k, e))
only_truncations bytes fits kind none sqnum group (truncation node) h = none sqnum group node h

other_than : (kind : ℕ) → (kind ≡ 2) ⊎ (kind ≡ 3) → (2 ≤ kind) × (kind ≤ 3)
other_than kind (inl e) = (omega (arith, e), omega (arith, e))
other_than kind (inr e) = (omega (arith, e), omega (arith, e))

only_entries : (bytes : List ℕ) → IsBytes bytes → (2 ≤ slice_index bytes 20) × (slice_index bytes 20 ≤ 3) → ((sqnum group : ℕ) (node : DentNode) → IsLeafNode bytes sqnum group (entry node) → ⊥)
    → (sqnum group : ℕ) (node : LeafNode) → IsLeafNode bytes sqnum group node → ⊥
only_entries bytes fits kind none sqnum group (inode node) h = let k = kind_is bytes sqnum group (inode node) fits h in absurd (omega (arith, kind, k))
only_entries bytes fits kind none sqnum group (block node) h = let k = kind_is bytes sqnum group (block node) fits h in absurd (omega (arith, kind, k))
only_entries bytes fits kind none sqnum group (entry node) h = none sqnum group node h
only_entries bytes fits kind none sqnum group (truncation node) h = let k = kind_is bytes sqnum group (truncation node) fits h in absurd (omega (arith, kind, k))

-- ---- what the decoders answer
pub some_is : {X : Type 0} (o : Option X) (x : X) (P : X → Type 0) → o ≡ Some x → IfSome o P → P x
some_is {X} o x P is h = let Q : Option X → Type 0 = λ r. IfSome r P in subst Q is h

none_is : {X : Type 0} (o : Option X) (P : Type 0) → o ≡ None → IfNone o P → P
none_is {X} o P is h = let Q : Option X → Type 0 = λ r. IfNone r P in subst Q is h

pub no_leaf : (bytes : List ℕ) → IsBytes bytes → 5 ≤ slice_index bytes 20 → IsChangeReadOf bytes None
no_leaf bytes fits kind = none_read bytes (only_leaves bytes fits kind)

pub no_inode : (bytes : List ℕ) (o : Option InoNode) → IsBytes bytes → slice_index bytes 20 ≡ 0 → o ≡ None
    → IfNone o ((sqnum group : ℕ) (node : InoNode) → IsLeafNode bytes sqnum group (inode node) → ⊥) → IsChangeReadOf bytes None
no_inode bytes o fits kind is none = none_read bytes (only_inodes bytes fits kind (none_is o _ is none))

pub no_block : (bytes : List ℕ) (o : Option DataNode) → IsBytes bytes → slice_index bytes 20 ≡ 1 → o ≡ None
    → IfNone o ((sqnum group : ℕ) (node : DataNode) → IsLeafNode bytes sqnum group (block node) → ⊥) → IsChangeReadOf bytes None
no_block bytes o fits kind is none = none_read bytes (only_blocks bytes fits kind (none_is o _ is none))

pub no_entry : (bytes : List ℕ) (o : Option DentNode) → IsBytes bytes → (slice_index bytes 20 ≡ 2) ⊎ (slice_index bytes 20 ≡ 3) → o ≡ None
    → IfNone o ((sqnum group : ℕ) (node : DentNode) → IsLeafNode bytes sqnum group (entry node) → ⊥) → IsChangeReadOf bytes None
no_entry bytes o fits kind is none = none_read bytes (only_entries bytes fits (other_than (slice_index bytes 20) kind) (none_is o _ is none))

pub no_truncation : (bytes : List ℕ) (o : Option TrunNode) → IsBytes bytes → slice_index bytes 20 ≡ 4 → o ≡ None
    → IfNone o ((sqnum group : ℕ) (node : TrunNode) → IsLeafNode bytes sqnum group (truncation node) → ⊥) → IsChangeReadOf bytes None
no_truncation bytes o fits kind is none = none_read bytes (only_truncations bytes fits kind (none_is o _ is none))
