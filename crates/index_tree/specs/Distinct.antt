-- Leaves of which no two are the same.
use Rattle.std.specs.Prelude.{List}
use Rattle.std.specs.List.{IsDistinct}
use Rattle.index_tree.specs.declared.leaf.Leaf.{Leaf}
use Rattle.index_tree.specs.Removal.{same_leaf}

-- no leaf has the key and the place of one behind it
abbrev pub AreDistinct : List Leaf → Type 0
AreDistinct xs = IsDistinct same_leaf xs
