-- Types of nodes: two are the same or not, and those of leaves have the low numbers.
use Rattle.std.proofs.Common.{◌≡◌, ◌⊎◌, ◌≤◌, Bool, true, false, Some, ap, sym, ◌∙◌, inl, inr, arith}
use Rattle.std.specs.Prelude.{if◌then◌else◌}
use Rattle.std.proofs.lemmas.Bool.{cases_eq}
use Rattle.ubifs_base.specs.NodeType.{type_number, type-numbered, type_numbered}
use Rattle.ubifs_base.specs.declared.node_type.NodeType.{NodeType}
use Rattle.ubifs_base.specs.declared.node_type.NodeType.TheVariants as types
use Rattle.media_leaf.specs.LeafNode.{LeafNode, inode, block, entry, truncation}
use Rattle.leb_scan.specs.Text.{leaf_type}

pub some_same : (a b : NodeType) → Some a ≡ Some b → a ≡ b
some_same a b h = cc

-- types of the same number are the same
pub type_same : (a b : NodeType) → type_number a ≡ type_number b → a ≡ b
type_same a b h = some_same a b (sym (type-numbered a) ∙ ap type_numbered h ∙ type-numbered b)

-- two types are the same or not
pub cases_type : (a b : NodeType) → (a ≡ b) ⊎ (a ≡ b → ⊥)
cases_type a b = elim (cases_eq (type_number a) (type_number b)) [ inl same ↦ inl (type_same a b same) | inr other ↦ inr (λ e. other (ap type_number e)) ]

entry_low : (attribute : Bool) → type_number (if attribute then types.Attribute else types.Entry) ≤ 4
entry_low true = omega arith
entry_low false = omega arith

-- the type of a leaf is one of the first five
pub leaf_low : (node : LeafNode) → type_number (leaf_type node) ≤ 4
leaf_low (inode node) = omega arith
leaf_low (block node) = omega arith
leaf_low (entry node) = entry_low node.attribute
leaf_low (truncation node) = omega arith
