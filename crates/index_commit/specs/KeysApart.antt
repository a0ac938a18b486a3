-- Indexes in which no key but an entry's stands twice, be it a leaf's or a branch's beside it.
use Rattle.std.specs.Prelude.{◌≡◌, ◌⊎◌, ◌<◌, ◌^◌, ◌%◌, ℕ, nat_le, Bool, true, List, [], ◌∷◌, Option, None, Some, ⊤}
use Rattle.index_tree.specs.Order.{key_rank, leaf_rank, of_rank}
use Rattle.index_tree.specs.declared.leaf.Leaf.{Leaf}
use Rattle.index_tree.specs.Shape.{contents}
use Rattle.index_media.specs.KeyedKeys.{key_before}
use Rattle.index_media.specs.KeyedRow.{KeyedRow, no_more, leaf_in, node_in, bare}
use Rattle.node_table.specs.declared.change.Change.{Change}
use Rattle.node_table.specs.declared.change.Change.TheVariants.{Insert, Remove, Replace, RemoveRange}

-- whether the key of this rank is an entry's: its second word is 2^30 or more
unfoldable pub is_entry_rank : ℕ → Bool
is_entry_rank rank = nat_le (2 ^ 30) (rank % 2 ^ 33)

-- a key of the one rank may stand in front of one of the other: that is greater, or the same key of an entry
abbrev pub MayStandBefore : ℕ → ℕ → Type 0
MayStandBefore rank next = (rank < next) ⊎ ((rank ≡ next) × (is_entry_rank next ≡ true))

-- the same of what bounds a row, if something does
abbrev pub IsBeforeBound : ℕ → Option ℕ → Type 0
IsBeforeBound rank None = ⊤
IsBeforeBound rank (Some next) = MayStandBefore rank next

-- each key of a row, and each below a branch, may stand in front of the row's next key, and the last ones in front of what bounds it
abbrev pub AreKeysApart : Option ℕ → KeyedRow → Type 0
AreKeysApart most no_more = ⊤
AreKeysApart most (leaf_in x rest) = IsBeforeBound (leaf_rank x) (key_before rest most) × AreKeysApart most rest
AreKeysApart most (node_in key place children rest) =
    IsBeforeBound (key_rank key) (key_before rest most) × AreKeysApart (key_before rest most) children × AreKeysApart most rest

-- the first leaf's key, or what bounds leaves where there is none
abbrev pub leaf_before : List Leaf → Option ℕ → Option ℕ
leaf_before [] most = most
leaf_before (x ∷ xs) most = Some (leaf_rank x)

-- each leaf's key may stand in front of the next one's, and the last one's in front of what bounds them
abbrev pub AreLeavesApart : Option ℕ → List Leaf → Type 0
AreLeavesApart most [] = ⊤
AreLeavesApart most (x ∷ xs) = IsBeforeBound (leaf_rank x) (leaf_before xs most) × AreLeavesApart most xs

-- a leaf of this key may come to these: the key is an entry's, or none of them has it
abbrev pub IsFreeKey : ℕ → List Leaf → Type 0
IsFreeKey rank leaves = (is_entry_rank rank ≡ true) ⊎ (of_rank rank leaves ≡ [])

-- what a change asks of an index's leaves, so that no key stands twice: that the key of a leaf that comes is free
abbrev pub IsFreeChange : Change → KeyedRow → Type 0
IsFreeChange (Insert x) row = IsFreeKey (leaf_rank x) (contents (bare row))
IsFreeChange (Remove x) row = ⊤
IsFreeChange (Replace gone come) row = ⊤
IsFreeChange (RemoveRange from to) row = ⊤
