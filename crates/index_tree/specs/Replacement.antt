-- How a shape changes when a leaf gives way to another of its key.
use Rattle.std.specs.Prelude.{if◌then◌else◌, List, [], ◌∷◌}
use Rattle.index_tree.specs.declared.leaf.Leaf.{Leaf}
use Rattle.index_tree.specs.Shape.{Shape, done, leaf, node, contents}
use Rattle.index_tree.specs.Removal.{same_leaf, holds}

-- the list with the leaf at the place of the old one
abbrev pub swapped : Leaf → Leaf → List Leaf → List Leaf
swapped old new [] = []
swapped old new (x ∷ xs) = if same_leaf x old then new ∷ xs else x ∷ swapped old new xs

-- the row with the leaf at the place of the old one
abbrev pub replaced : Leaf → Leaf → Shape → Shape
replaced old new done = done
replaced old new (leaf x rest) = if same_leaf x old then leaf new rest else leaf x (replaced old new rest)
replaced old new (node children rest) =
    if holds old (contents children) then node (replaced old new children) rest
    else node children (replaced old new rest)
