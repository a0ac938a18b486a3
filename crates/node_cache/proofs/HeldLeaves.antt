-- Where a leaf itself can stand, of leaves in front and leaves behind them.
use Rattle.std.proofs.Common.{◌≡◌, ◌+◌, true, false, List, [], ◌∷◌, ◌++◌, refl, ap, ◌∙◌, arith, inl, inr}
use Rattle.std.specs.Prelude.{◌==◌}
use Rattle.std.proofs.lemmas.Bool.{cases_Bool}
use Rattle.std.proofs.lemmas.Bool.Decides.{nat_tests}
use Rattle.index_tree.specs.Order.{leaf_rank}
use Rattle.index_tree.specs.Removal.{same_leaf, holds}
use Rattle.index_tree.specs.declared.leaf.Leaf.{Leaf}
use Rattle.index_media.specs.KeyedBounds.{AreAtLeast}
use Rattle.node_cache.proofs.Passed.{AreBelow}

other_rank : (x z : Leaf) → (leaf_rank x == leaf_rank z) ≡ false → same_leaf x z ≡ false
unfolding same_leaf
other_rank x z e = rw e refl

none_below : (z : Leaf) (xs : List Leaf) → AreBelow (leaf_rank z) xs → holds z xs ≡ false
none_below z [] h = refl
none_below z (x ∷ xs) h =
    let low = h.0 in
    let other : (leaf_rank x == leaf_rank z) ≡ false = grind (arith, nat_tests, low) in
    rw (other_rank x z other) (none_below z xs h.1)

-- those behind have higher ranks
pub holds_above : (z : Leaf) (xs : List Leaf) → AreAtLeast (leaf_rank z + 1) xs → holds z xs ≡ false
holds_above z [] h = refl
holds_above z (x ∷ xs) h =
    let above = h.0 in
    let other : (leaf_rank x == leaf_rank z) ≡ false = grind (arith, nat_tests, above) in
    rw (other_rank x z other) (holds_above z xs h.1)

first : (z : Leaf) (xs ys : List Leaf) → holds z xs ≡ true → holds z (xs ++ ys) ≡ true
first z [] ys h = absurd cc
first z (x ∷ xs) ys h = elim (cases_Bool (same_leaf x z)) [
  | inl e ↦ rw e refl
  | inr e ↦ rw e (first z xs ys (rw e at h))
]

second : (z : Leaf) (xs ys : List Leaf) → holds z xs ≡ false → holds z (xs ++ ys) ≡ holds z ys
second z [] ys h = refl
second z (x ∷ xs) ys h = elim (cases_Bool (same_leaf x z)) [
  | inl e ↦ let there = rw e at h in absurd cc
  | inr e ↦ rw e (second z xs ys (rw e at h))
]

-- it is in front
pub holds_in_front : (z : Leaf) (all front back : List Leaf) → all ≡ front ++ back → holds z front ≡ true → holds z all ≡ true
holds_in_front z all front back is h = ap (holds z) is ∙ first z front back h

-- or behind
pub holds_behind : (z : Leaf) (all front back : List Leaf) → all ≡ front ++ back → holds z front ≡ false → holds z all ≡ holds z back
holds_behind z all front back is h = ap (holds z) is ∙ second z front back h

-- those in front have lower ranks
pub holds_passed : (z : Leaf) (all front back : List Leaf) → all ≡ front ++ back → AreBelow (leaf_rank z) front → holds z all ≡ holds z back
holds_passed z all front back is low = holds_behind z all front back is (none_below z front low)
