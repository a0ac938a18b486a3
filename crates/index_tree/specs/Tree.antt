-- The shape of the nodes that the code keeps.
use Rattle.std.specs.Prelude.{Bool, true, ◌&&◌, nat_eq, List, [], ◌∷◌, Option, None, Some}
use Rattle.ubifs_base.specs.declared.key.Key.{Key}
use Rattle.index_tree.specs.declared.leaf.Leaf.{Leaf}
use Rattle.index_tree.specs.declared.node.Node.{Node}
use Rattle.index_tree.specs.declared.node.Node.TheOpen.{Node-F}
use Rattle.index_tree.specs.declared.node.Node.TheViews.{out-Node}
use Rattle.index_tree.specs.declared.node.Node.TheFolds.{fold-Node}
use Rattle.index_tree.specs.Order.{key_rank}
use Rattle.index_tree.specs.Shape.{Shape, done, leaf, node, first_rank}

-- these leaves before a row
abbrev pub leaves_before : List Leaf → Shape → Shape
leaves_before [] rest = rest
leaves_before (x ∷ xs) rest = leaf x (leaves_before xs rest)

-- what is seen of a node: its row of children, and whether it and each node below it keeps the key of its first leaf
pub record Seen : Type 0 where
  pub children : Shape
  pub keeps : Bool

-- a row of nodes of which this is seen
abbrev pub seen_row : List Seen → Shape
seen_row [] = done
seen_row (s ∷ ss) = node s.children (seen_row ss)

-- whether all of them keep their keys
abbrev pub seen_keep : List Seen → Bool
seen_keep [] = true
seen_keep (s ∷ ss) = s.keeps && seen_keep ss

-- whether this is the key of the first leaf of a row
abbrev pub is_first : Key → Shape → Bool
is_first first children = nat_eq (key_rank first) (first_rank children)

-- one node, with what is seen of each of its nodes in its place
abbrev pub seen_step : Node-F Seen → Seen
seen_step one = record {
  children = leaves_before one.leaves.items (seen_row one.nodes.items);
  keeps = is_first one.first (leaves_before one.leaves.items (seen_row one.nodes.items)) && seen_keep one.nodes.items;
}

abbrev pub seen : Node → Seen
seen = fold-Node Seen seen_step

-- the row of children of a node
unfoldable pub below : Node → Shape
below one = (seen one).children

-- whether a node, and each below it, keeps the key of its first leaf
unfoldable pub kept : Node → Bool
kept one = (seen one).keeps

-- a row of nodes
abbrev pub row : List Node → Shape
row [] = done
row (one ∷ rest) = node (below one) (row rest)

-- whether each node of a row keeps its key
abbrev pub kept_all : List Node → Bool
kept_all [] = true
kept_all (one ∷ rest) = kept one && kept_all rest

-- whether each node below this one keeps its key
abbrev pub kept_inside : Node → Bool
kept_inside one = kept_all (out-Node one).nodes.items

-- the whole shape
abbrev pub shape : Option Node → Shape
shape None = done
shape (Some root) = node (below root) done

-- whether each node of it keeps its key
abbrev pub kept_root : Option Node → Bool
kept_root None = true
kept_root (Some root) = kept root
