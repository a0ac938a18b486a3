-- Bodies of nodes of any kind.
use Rattle.std.specs.Prelude.{ℕ, List}
use Rattle.node_fields.specs.Form.{IsBody}
use Rattle.media_leaf.specs.LeafNode.{leaf_form}
use Rattle.media_sys.specs.SystemNode.{system_form}
use Rattle.leb_scan.specs.Text.{AnyNode, leaf, system}

-- a type and a body are this node's
abbrev pub IsBodyOf : ℕ → List ℕ → AnyNode → Type 0
IsBodyOf kind body (leaf node) = IsBody leaf_form kind body node
IsBodyOf kind body (system node) = IsBody system_form kind body node
