-- What bounds on the keys of a row say of its leaves.
use Rattle.std.proofs.Common.{◌≡◌, ℕ, ◌+◌, ◌≤◌, true, false, List, [], ◌∷◌, ◌++◌, arith}
use Rattle.std.proofs.lemmas.Bool.{leb-true, leb-false}
use Rattle.std.specs.Prelude.{Option, Some, None, ⊤}
use Rattle.index_tree.specs.Order.{key_rank, leaf_rank}
use Rattle.index_tree.specs.Shape.{contents}
use Rattle.index_tree.specs.declared.leaf.Leaf.{Leaf}
use Rattle.index_media.specs.Insertion.{starts_by}
use Rattle.index_media.specs.KeyedKeys.{key_before, AreKeysBounded}
use Rattle.index_media.specs.KeyedRow.{KeyedRow, no_more, leaf_in, node_in, bare}
use Rattle.index_media.specs.Keys.{IsAtMost}

-- no leaf's key is above
abbrev pub AreAtMost : Option ℕ → List Leaf → Type 0
AreAtMost most [] = ⊤
AreAtMost most (x ∷ xs) = IsAtMost (leaf_rank x) most × AreAtMost most xs

pub most_append : (most : Option ℕ) (xs ys : List Leaf) → AreAtMost most xs → AreAtMost most ys → AreAtMost most (xs ++ ys)
most_append most [] ys hx hy = hy
most_append most (x ∷ xs) ys hx hy = (hx.0, most_append most xs ys hx.1 hy)

pub most_weaken : (m most : Option ℕ) (xs : List Leaf) → ((n : ℕ) → IsAtMost n m → IsAtMost n most) → AreAtMost m xs → AreAtMost most xs
most_weaken m most [] w h = tt
most_weaken m most (x ∷ xs) w h = (w (leaf_rank x) h.0, most_weaken m most xs w h.1)

pub lower_at_most : (n rank : ℕ) (most : Option ℕ) → n ≤ rank → IsAtMost rank most → IsAtMost n most
lower_at_most n rank None l h = tt
lower_at_most n rank (Some m) l h = omega (arith, l, h)

pub before_within : (least : ℕ) (most : Option ℕ) (rest : KeyedRow) → AreKeysBounded least most rest → (n : ℕ) → IsAtMost n (key_before rest most) → IsAtMost n most
before_within least most no_more h n l = l
before_within least most (leaf_in x rest) h n l = lower_at_most n (leaf_rank x) most l h.1
before_within least most (node_in key place c rest) h n l = lower_at_most n (key_rank key) most l h.1

pub keyed_at_most : (least : ℕ) (most : Option ℕ) (row : KeyedRow) → AreKeysBounded least most row → AreAtMost most (contents (bare row))
keyed_at_most least most no_more h = tt
keyed_at_most least most (leaf_in x rest) h = (h.1, keyed_at_most (leaf_rank x) most rest h.2)
keyed_at_most least most (node_in key place c rest) h =
    most_append most (contents (bare c)) (contents (bare rest))
    (most_weaken (key_before rest most) most (contents (bare c)) (before_within (key_rank key) most rest h.3) (keyed_at_most (key_rank key) (key_before rest most) c h.2))
    (keyed_at_most (key_rank key) most rest h.3)

-- no leaf's key is below
abbrev pub AreAtLeast : ℕ → List Leaf → Type 0
AreAtLeast least [] = ⊤
AreAtLeast least (x ∷ xs) = (least ≤ leaf_rank x) × AreAtLeast least xs

pub least_append : (least : ℕ) (xs ys : List Leaf) → AreAtLeast least xs → AreAtLeast least ys → AreAtLeast least (xs ++ ys)
least_append least [] ys hx hy = hy
least_append least (x ∷ xs) ys hx hy = (hx.0, least_append least xs ys hx.1 hy)

pub keyed_at_least : (low least : ℕ) (most : Option ℕ) (row : KeyedRow) → low ≤ least → AreKeysBounded least most row → AreAtLeast low (contents (bare row))
keyed_at_least low least most no_more l h = tt
keyed_at_least low least most (leaf_in x rest) l h =
    let first : low ≤ leaf_rank x = omega (arith, l, h.0) in
    (first, keyed_at_least low (leaf_rank x) most rest first h.2)
keyed_at_least low least most (node_in key place c rest) l h =
    let first : low ≤ key_rank key = omega (arith, l, h.0) in
    least_append low (contents (bare c)) (contents (bare rest)) (keyed_at_least low (key_rank key) (key_before rest most) c first h.2) (keyed_at_least low (key_rank key) most rest first h.3)

-- where a row starts within a rank, what is in front of it is within the rank
pub within_start : (rank : ℕ) (most : Option ℕ) (row : KeyedRow) → starts_by rank row ≡ true → (n : ℕ) → IsAtMost n (key_before row most) → IsAtMost n (Some rank)
within_start rank most no_more s n l = absurd cc
within_start rank most (leaf_in x rest) s n l = let first = leb-true (leaf_rank x) rank s in omega (arith, first, l)
within_start rank most (node_in key place c rest) s n l = let first = leb-true (key_rank key) rank s in omega (arith, first, l)

-- where it doesn't, all its leaves are above
pub above_start : (rank least : ℕ) (most : Option ℕ) (row : KeyedRow) → AreKeysBounded least most row → starts_by rank row ≡ false → AreAtLeast (rank + 1) (contents (bare row))
above_start rank least most no_more h s = tt
above_start rank least most (leaf_in x rest) h s =
    let first : rank + 1 ≤ leaf_rank x = omega (arith, leb-false (leaf_rank x) rank s) in
    (first, keyed_at_least (rank + 1) (leaf_rank x) most rest first h.2)
above_start rank least most (node_in key place c rest) h s =
    let first : rank + 1 ≤ key_rank key = omega (arith, leb-false (key_rank key) rank s) in
    least_append (rank + 1) (contents (bare c)) (contents (bare rest)) (keyed_at_least (rank + 1) (key_rank key) (key_before rest most) c first h.2) (keyed_at_least (rank + 1) (key_rank key) most rest first h.3)

-- a lower least
pub lower_least : (low least : ℕ) (most : Option ℕ) (row : KeyedRow) → low ≤ least → AreKeysBounded least most row → AreKeysBounded low most row
lower_least low least most no_more l h = tt
lower_least low least most (leaf_in x rest) l h = (omega (arith, l, h.0), h.1, h.2)
lower_least low least most (node_in key place c rest) l h = (omega (arith, l, h.0), h.1, h.2, h.3)

-- where a row starts within a rank, what bounds it from below is within the rank
pub start_above : (least rank : ℕ) (most : Option ℕ) (row : KeyedRow) → AreKeysBounded least most row → starts_by rank row ≡ true → least ≤ rank
start_above least rank most no_more h s = absurd cc
start_above least rank most (leaf_in x rest) h s = let first = leb-true (leaf_rank x) rank s in omega (arith, first, h.0)
start_above least rank most (node_in key place c rest) h s = let first = leb-true (key_rank key) rank s in omega (arith, first, h.0)
