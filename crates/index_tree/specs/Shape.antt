-- The shape of an index: a tree of leaves, what it contains, and how an insertion changes it.
use Rattle.std.specs.Prelude.{ℕ, ◌+◌, ◌-◌, ◌/◌, ◌==◌, nat_le, nat_lt, Bool, true, false, ◌&&◌, if◌then◌else◌, List, [], ◌∷◌, ◌++◌}
use Rattle.index_tree.specs.declared.leaf.Leaf.{Leaf}
use Rattle.index_tree.specs.Order.{leaf_rank}

-- a row of siblings: leaves, or nodes, each of which has a row of children of its own.
-- A whole shape is a row of one node, the root, or of none
pub data Shape : Type 0 where
  done : Shape
  leaf : Leaf → Shape → Shape
  node : Shape → Shape → Shape

-- the leaves from left to right
abbrev pub contents : Shape → List Leaf
contents done = []
contents (leaf x rest) = x ∷ contents rest
contents (node children rest) = contents children ++ contents rest

-- how many siblings the row has
abbrev pub count : Shape → ℕ
count done = 0
count (leaf x rest) = count rest + 1
count (node children rest) = count rest + 1

-- how many nodes there are
abbrev pub node_count : Shape → ℕ
node_count done = 0
node_count (leaf x rest) = node_count rest
node_count (node children rest) = node_count children + node_count rest + 1

-- 1 for a full node, one that has room for no further child, and else 0
abbrev pub full : ℕ → Shape → ℕ
full fanout children = if nat_le fanout (count children) then 1 else 0

-- the number of nodes plus the number of full ones
abbrev pub shape_weight : ℕ → Shape → ℕ
shape_weight fanout done = 0
shape_weight fanout (leaf x rest) = shape_weight fanout rest
shape_weight fanout (node children rest) = shape_weight fanout children + shape_weight fanout rest + 1 + full fanout children

-- each node has 1 to fanout children
abbrev pub fits : ℕ → Shape → Bool
fits fanout done = true
fits fanout (leaf x rest) = fits fanout rest
fits fanout (node children rest) = nat_lt 0 (count children) && nat_le (count children) fanout && fits fanout children && fits fanout rest

-- each node has a child
abbrev pub filled : Shape → Bool
filled done = true
filled (leaf x rest) = filled rest
filled (node children rest) = nat_lt 0 (count children) && filled children && filled rest

-- whether the row has a first leaf of this rank or a lower one
abbrev pub begins_within : ℕ → Shape → Bool
begins_within rank done = false
begins_within rank (leaf x rest) = nat_le (leaf_rank x) rank
begins_within rank (node children rest) = begins_within rank children

-- the rank of the first leaf, 0 where there is none
abbrev pub first_rank : Shape → ℕ
first_rank done = 0
first_rank (leaf x rest) = leaf_rank x
first_rank (node children rest) = first_rank children

-- whether the row is one node alone
abbrev pub lone : Shape → Bool
lone done = false
lone (leaf x rest) = false
lone (node children rest) = count rest == 0

-- a whole shape: no row at all, or one node alone, the root
abbrev pub is_whole : Shape → Bool
is_whole done = true
is_whole (leaf x rest) = false
is_whole (node children rest) = count rest == 0

-- the first n of a row
abbrev pub front : ℕ → Shape → Shape
front n done = done
front n (leaf x rest) = if n == 0 then done else leaf x (front (n - 1) rest)
front n (node children rest) = if n == 0 then done else node children (front (n - 1) rest)

-- the row behind its first n
abbrev pub back : ℕ → Shape → Shape
back n done = done
back n (leaf x rest) = if n == 0 then leaf x rest else back (n - 1) rest
back n (node children rest) = if n == 0 then node children rest else back (n - 1) rest

-- how many of the fanout + 1 children go left when a node splits in halves: the extra one does
abbrev pub left_half : ℕ → ℕ
left_half fanout = (fanout + 2) / 2

-- a node before the row; one with more than fanout children splits in halves
unfoldable pub parted : ℕ → Shape → Shape → Shape
parted fanout children rest =
    if nat_le (fanout + 1) (count children)
    then node (front (left_half fanout) children) (node (back (left_half fanout) children) rest)
    else node children rest

-- a row with one more leaf, after all leaves whose key isn't greater, in the node of the leaf before it
abbrev pub inserted : ℕ → Leaf → Shape → Shape
inserted fanout new done = leaf new done
inserted fanout new (leaf x rest) =
    if nat_le (leaf_rank x) (leaf_rank new) then leaf x (inserted fanout new rest) else leaf new (leaf x rest)
inserted fanout new (node children rest) =
    if begins_within (leaf_rank new) rest then node children (inserted fanout new rest)
    else parted fanout (inserted fanout new children) rest

-- a row that isn't one node alone gets a new root
abbrev pub rooted : Shape → Shape
rooted row = if lone row then row else node row done

-- the shape with one more leaf
unfoldable pub with_leaf : ℕ → Leaf → Shape → Shape
with_leaf fanout new shape = rooted (inserted fanout new shape)
