-- Leaves that overlap others, in order of place.
use Rattle.std.specs.Prelude.{◌≡◌, ◌⊎◌, ℕ, ◌+◌, ◌*◌, ◌^◌, ◌<◌, ◌||◌, not, Bool, false, cond, List, [], ◌∷◌, Option, Some, None}
use Rattle.std.specs.List.Sorted.{IsNonDecreasingBy}
use Rattle.index_tree.specs.declared.leaf.Leaf.{Leaf}
use Rattle.index_media.specs.PlacedRow.{branch_to, is_apart, stretch_of}

-- whether a leaf doesn't overlap another
abbrev pub is_clear_of : Leaf → Leaf → Bool
is_clear_of leaf other = is_apart (stretch_of (branch_to leaf)) (branch_to other)

-- how many of some leaves a leaf overlaps
abbrev pub overlaps : Leaf → List Leaf → ℕ
overlaps leaf [] = 0
overlaps leaf (other ∷ others) = cond (is_clear_of leaf other) 0 1 + overlaps leaf others

-- of these leaves, of which it is one, a leaf overlaps another: more than itself alone
abbrev pub IsOverlapped : List Leaf → Leaf → Type 0
IsOverlapped leaves leaf = cond (is_clear_of leaf leaf) 0 1 < overlaps leaf leaves

-- the number by which leaves are put in order: by LEB, offset and length
abbrev pub place_rank : Leaf → ℕ
place_rank leaf = leaf.lnum * 2 ^ 64 + leaf.offs * 2 ^ 32 + leaf.len

-- an offset and a length have 32 bits
pub record IsNarrow (leaf : Leaf) : Type 0 where
  pub offs_fits : leaf.offs < 2 ^ 32
  pub len_fits : leaf.len < 2 ^ 32

-- leaves are in that order
abbrev pub AreLeavesInOrder : List Leaf → Type 0
AreLeavesInOrder leaves = IsNonDecreasingBy place_rank leaves

-- a leaf's place comes before that of another
abbrev pub StandsBefore : Leaf → Leaf → Type 0
StandsBefore leaf other = (leaf.lnum < other.lnum) ⊎ ((leaf.lnum ≡ other.lnum) × (leaf.offs < other.offs))

-- whether the leaf before it, if there is one, overlaps a leaf
abbrev pub touches_last : Option Leaf → Leaf → Bool
touches_last None leaf = false
touches_last (Some other) leaf = not (is_clear_of leaf other)

-- whether the first of those behind it does
abbrev pub touches_next : Leaf → List Leaf → Bool
touches_next leaf [] = false
touches_next leaf (other ∷ behind) = not (is_clear_of leaf other)

-- whether one of its neighbours does
abbrev pub touches : Option Leaf → Leaf → List Leaf → Bool
touches last leaf behind = touches_last last leaf || touches_next leaf behind
