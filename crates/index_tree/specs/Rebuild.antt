-- A shape made of its list of nodes: children wait in a row until their parent takes them.
use Rattle.std.specs.Prelude.{◌≡◌, ℕ, ◌≤◌, ◌==◌, true, if◌then◌else◌, List, [], ◌∷◌, ◌++◌, take, drop}
use Rattle.index_tree.specs.declared.leaf.Leaf.{Leaf}
use Rattle.index_tree.specs.Keyed.{HaveKeys}
use Rattle.index_tree.specs.Levels.{is_levelled}
use Rattle.index_tree.specs.Listing.{ListedNode}
use Rattle.index_tree.specs.Order.{ordered_from}
use Rattle.index_tree.specs.Removal.{tidied}
use Rattle.index_tree.specs.Shape.{Shape, done, leaf, node, contents, shape_weight, fits, is_whole}

-- what a shape of an index is
pub record IsIndex (fanout : ℕ) (shape : Shape) : Type 0 where
  pub whole : is_whole shape ≡ true
  pub sound : fits fanout shape ≡ true
  pub ordered : ordered_from 0 (contents shape) ≡ true
  pub levels : is_levelled shape ≡ true
  pub keyed : HaveKeys (contents shape)

-- an index of these leaves that weighs at most so much
pub record IsIndexOf (fanout : ℕ) (leaves : List Leaf) (most : ℕ) (shape : Shape) : Type 0 where
  pub index : IsIndex fanout shape
  pub holds : contents shape ≡ leaves
  pub weight : shape_weight fanout shape ≤ most

-- a row of leaves
abbrev pub leaf_row : List Leaf → Shape
leaf_row [] = done
leaf_row (x ∷ xs) = leaf x (leaf_row xs)

-- a row of nodes with these rows of children, of which empty ones make no node
abbrev pub joined : List Shape → Shape
joined [] = done
joined (c ∷ cs) = tidied (node c (joined cs))

-- the rows of children that wait, once this node has taken its own
abbrev pub waiting : List Shape → ListedNode → List Shape
waiting parts one =
    if one.level == 0 then parts ++ (leaf_row one.leaves ∷ [])
    else drop one.count parts ++ (joined (take one.count parts) ∷ [])

-- and once all these nodes have
abbrev pub waiting_after : List Shape → List ListedNode → List Shape
waiting_after parts [] = parts
waiting_after parts (one ∷ ones) = waiting_after (waiting parts one) ones
