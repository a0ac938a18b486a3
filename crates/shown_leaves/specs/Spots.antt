-- The key and the place of a leaf, and sets of them.
use Rattle.std.specs.Prelude.{◌≡◌, ◌⊎◌, ℕ, ◌<◌, ◌==◌, ◌&&◌, ⊤, Bool, IsFalse, IsTrue, List, [], ◌∷◌, ◌++◌}
use Rattle.std.specs.BTreeMap.{is_at}
use Rattle.std.specs.BTreeSet.{BTreeSet, contains}
use Rattle.std.specs.Ordering.{nat_cmp, ordering_then}
use Rattle.std.specs.declared.cmp.Ordering.{Ordering}
use Rattle.ubifs_base.specs.Key.{key_words}
use Rattle.index_tree.specs.Order.{leaf_rank}
use Rattle.index_tree.specs.Removal.{holds}
use Rattle.index_tree.specs.declared.leaf.Leaf.{Leaf}
use Rattle.sound_image.specs.Wrong.{Wrong, differs}
use Rattle.image_check.specs.declared.wrong_value.WrongValue.{WrongValue}

-- a key's place in the order, and the LEB, offset and length of a leaf
abbrev pub Spot : Type 0
Spot = ℕ × ℕ × ℕ × ℕ

abbrev pub spot_of : Leaf → Spot
spot_of leaf = (leaf_rank leaf, leaf.lnum, leaf.offs, leaf.len)

-- one after another
abbrev pub spot_cmp : Spot → Spot → Ordering
spot_cmp a b = ordering_then (ordering_then (ordering_then (nat_cmp a.0 b.0) (nat_cmp a.1 b.1)) (nat_cmp a.2 b.2)) (nat_cmp a.3 b.3)

abbrev pub is_same_spot : Spot → Spot → Bool
is_same_spot a b = is_at (spot_cmp a) b

-- whether it is among those that were seen
abbrev pub has_spot : BTreeSet Spot → Spot → Bool
has_spot seen spot = contains spot_cmp seen spot

-- whether two leaves stand at one place
abbrev pub is_at_one_place : Leaf → Leaf → Bool
is_at_one_place a b = (a.lnum == b.lnum) && ((a.offs == b.offs) && (a.len == b.len))

-- what stands behind a leaf has greater keys, up to the first that has; before that stand leaves of its key at other places
abbrev pub IsApartFrom : Leaf → List Leaf → Type 0
IsApartFrom leaf [] = ⊤
IsApartFrom leaf (other ∷ leaves) =
    (leaf_rank leaf < leaf_rank other)
    ⊎ ((leaf_rank leaf ≡ leaf_rank other) × IsFalse (is_at_one_place leaf other) × IsApartFrom leaf leaves)

-- that holds of each leaf and those behind it
abbrev pub AreSpotsApart : List Leaf → Type 0
AreSpotsApart [] = ⊤
AreSpotsApart (leaf ∷ leaves) = IsApartFrom leaf leaves × AreSpotsApart leaves

-- one of these leaves has the key and the place of one before it
abbrev pub IsTwiceIn : List Leaf → Wrong → Type 0
IsTwiceIn leaves at =
    (leaf : Leaf) × (before : List Leaf) × (behind : List Leaf) × (leaves ≡ before ++ (leaf ∷ behind)) × IsTrue (holds leaf before)
    × (at ≡ record { lnum = leaf.lnum; offs = leaf.offs; misfit = differs (key_words leaf.key).0 0 })

-- a leaf's place, where the number in its key is wanted
abbrev pub wrong_leaf : Leaf → WrongValue
wrong_leaf leaf = record { lnum = leaf.lnum; offs = leaf.offs; wanted = (key_words leaf.key).0; found = 0 }
