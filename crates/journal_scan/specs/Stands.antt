-- Nodes that were found stand in their LEB, and which of them are leaf nodes.
use Rattle.std.specs.Prelude.{ℕ, nat_le, Bool, List}
use Rattle.ubifs_base.specs.NodeType.{type_number}
use Rattle.ubifs_base.specs.declared.node_type.NodeType.{NodeType}
use Rattle.leb_scan.specs.Text.{AnyNode, StandsAt}
use Rattle.leb_scan.specs.declared.found.Found.{Found}

-- a node stands where it was found
abbrev pub HasNode : List ℕ → Found → Type 0
HasNode leb found = (node : AnyNode) × StandsAt leb found.offs found node

-- whether nodes of a type are leaf nodes: the first five are
abbrev pub is_leaf_type : NodeType → Bool
is_leaf_type type = nat_le (type_number type) 4
