-- Changes of an index, one after another, and what they make of its leaves.
use Rattle.std.specs.Prelude.{◌≡◌, ℕ, List, [], ◌∷◌, ⊤}
use Rattle.ubifs_base.specs.Key.{IsKey}
use Rattle.index_tree.specs.Order.{key_rank, leaf_rank, placed}
use Rattle.index_tree.specs.RangeRemoval.{outside_range}
use Rattle.index_tree.specs.Removal.{without}
use Rattle.index_tree.specs.Replacement.{swapped}
use Rattle.index_tree.specs.declared.leaf.Leaf.{Leaf}
use Rattle.index_media.specs.Insertion.{with_leaf_by_keys}
use Rattle.index_media.specs.KeyedRange.{without_range_by_keys}
use Rattle.index_media.specs.KeyedRemoval.{replaced_by_keys}
use Rattle.index_media.specs.KeyedRow.{KeyedRow}
use Rattle.node_table.specs.Exchange.{tree_without}
use Rattle.node_table.specs.declared.change.Change.{Change}
use Rattle.node_table.specs.declared.change.Change.TheVariants.{Insert, Remove, Replace, RemoveRange}

-- a leaf that comes has a key, and that of the leaf whose place it takes
abbrev pub IsChange : Change → Type 0
IsChange (Insert x) = IsKey x.key
IsChange (Remove x) = ⊤
IsChange (Replace gone come) = (leaf_rank come ≡ leaf_rank gone) × IsKey come.key
IsChange (RemoveRange from to) = ⊤

abbrev pub AreChanges : List Change → Type 0
AreChanges [] = ⊤
AreChanges (change ∷ changes) = IsChange change × AreChanges changes

-- an index after a change
abbrev pub changed_row : ℕ → Change → KeyedRow → KeyedRow
changed_row fanout (Insert x) row = with_leaf_by_keys fanout x row
changed_row fanout (Remove x) row = tree_without x row
changed_row fanout (Replace gone come) row = replaced_by_keys gone come row
changed_row fanout (RemoveRange from to) row = without_range_by_keys (key_rank from) (key_rank to) row

-- after several, the first one first
abbrev pub changed_by : ℕ → List Change → KeyedRow → KeyedRow
changed_by fanout [] row = row
changed_by fanout (change ∷ changes) row = changed_by fanout changes (changed_row fanout change row)

-- leaves after a change
abbrev pub leaves_after_change : Change → List Leaf → List Leaf
leaves_after_change (Insert x) xs = placed x xs
leaves_after_change (Remove x) xs = without x xs
leaves_after_change (Replace gone come) xs = swapped gone come xs
leaves_after_change (RemoveRange from to) xs = outside_range (key_rank from) (key_rank to) xs

-- after several
abbrev pub leaves_after_all : List Change → List Leaf → List Leaf
leaves_after_all [] xs = xs
leaves_after_all (change ∷ changes) xs = leaves_after_all changes (leaves_after_change change xs)
