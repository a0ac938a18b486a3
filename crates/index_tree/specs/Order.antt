-- The order of leaves: by their keys.
use Rattle.std.specs.Prelude.{ℕ, ◌+◌, ◌*◌, ◌^◌, Bool, true, false, ◌&&◌, ◌==◌, nat_le, nat_lt, if◌then◌else◌, List, [], ◌∷◌, filter, Option}
use Rattle.std.specs.List.{find}
use Rattle.ubifs_base.specs.declared.key.Key.{Key}
use Rattle.ubifs_base.specs.Key.{key_words}
use Rattle.index_tree.specs.declared.leaf.Leaf.{Leaf}

-- a key's place in the order: by its first word, and then by its second, which is below 2^33
unfoldable pub key_rank : Key → ℕ
key_rank key = (key_words key).0 * 2 ^ 33 + (key_words key).1

-- a leaf's place in the order is its key's
abbrev pub leaf_rank : Leaf → ℕ
leaf_rank x = key_rank x.key

-- the leaves' keys never fall, and are none below this rank
abbrev pub ordered_from : ℕ → List Leaf → Bool
ordered_from low [] = true
ordered_from low (x ∷ xs) = nat_le low (leaf_rank x) && ordered_from (leaf_rank x) xs

-- whether there is a first leaf, of this rank or a lower one
abbrev pub starts_within : ℕ → List Leaf → Bool
starts_within rank [] = false
starts_within rank (x ∷ xs) = nat_le (leaf_rank x) rank

-- the list with one more leaf, after all leaves whose key isn't greater
abbrev pub placed : Leaf → List Leaf → List Leaf
placed new [] = new ∷ []
placed new (x ∷ xs) = if nat_le (leaf_rank x) (leaf_rank new) then x ∷ placed new xs else new ∷ x ∷ xs

-- the leaves of one key, in order
abbrev pub of_rank : ℕ → List Leaf → List Leaf
of_rank rank xs = filter (λ x. leaf_rank x == rank) xs

-- the first leaf of a greater rank, none where there is none
abbrev pub first_after : ℕ → List Leaf → Option Leaf
first_after rank xs = find (λ x. nat_lt rank (leaf_rank x)) xs
