-- How a shape changes when leaves are taken out or get another place.
use Rattle.std.specs.Prelude.{◌==◌, Bool, true, false, if◌then◌else◌, List, [], ◌∷◌}
use Rattle.index_tree.specs.declared.leaf.Leaf.{Leaf}
use Rattle.index_tree.specs.Order.{leaf_rank}
use Rattle.index_tree.specs.Shape.{Shape, done, leaf, node, contents, count, lone}

-- whether two leaves have the same key and the same place
unfoldable pub same_leaf : Leaf → Leaf → Bool
same_leaf x y =
    if leaf_rank x == leaf_rank y
    then (if x.lnum == y.lnum then (if x.offs == y.offs then x.len == y.len else false) else false)
    else false

-- whether the leaf is there
abbrev pub holds : Leaf → List Leaf → Bool
holds sought [] = false
holds sought (x ∷ xs) = if same_leaf x sought then true else holds sought xs

-- the list without the leaf
abbrev pub without : Leaf → List Leaf → List Leaf
without gone [] = []
without gone (x ∷ xs) = if same_leaf x gone then xs else x ∷ without gone xs

-- an empty node goes
abbrev pub tidied : Shape → Shape
tidied done = done
tidied (leaf x rest) = leaf x rest
tidied (node children rest) = if count children == 0 then rest else node children rest

-- a row without the leaf, and without the nodes that this empties
abbrev pub removed : Leaf → Shape → Shape
removed gone done = done
removed gone (leaf x rest) = if same_leaf x gone then rest else leaf x (removed gone rest)
removed gone (node children rest) =
    if holds gone (contents children) then tidied (node (removed gone children) rest)
    else node children (removed gone rest)

-- a root above the lowest level with one child gives way to the child
abbrev pub collapsed : Shape → Shape
collapsed done = done
collapsed (leaf x rest) = leaf x rest
collapsed (node children rest) = if lone children then collapsed children else node children rest

-- the shape without the leaf
unfoldable pub without_leaf : Leaf → Shape → Shape
without_leaf gone shape = collapsed (removed gone shape)
