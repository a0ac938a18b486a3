-- Where the leaves of a range stand, of leaves in front and leaves behind them.
use Rattle.std.proofs.Common.{◌≡◌, ℕ, ◌+◌, false, List, [], ◌∷◌, ◌++◌, refl, ap, ◌∙◌, arith, inl, inr, append-nil}
use Rattle.std.specs.Prelude.{nat_le}
use Rattle.std.proofs.lemmas.Bool.{cases_Bool}
use Rattle.std.proofs.lemmas.Bool.Decides.{nat_tests}
use Rattle.std.proofs.lemmas.List.Elements.{filter-append}
use Rattle.index_tree.specs.Order.{leaf_rank}
use Rattle.index_tree.specs.RangeRemoval.{in_range, within_range}
use Rattle.index_tree.specs.declared.leaf.Leaf.{Leaf}
use Rattle.index_media.specs.KeyedBounds.{AreAtLeast}
use Rattle.node_cache.proofs.Passed.{AreBelow}

none_below : (from to : ℕ) (xs : List Leaf) → AreBelow from xs → within_range from to xs ≡ []
none_below from to [] h = refl
none_below from to (x ∷ xs) h =
    let low = h.0 in
    let other : nat_le from (leaf_rank x) ≡ false = grind (arith, nat_tests, low) in
    rw other (none_below from to xs h.1)

none_above : (from to : ℕ) (xs : List Leaf) → AreAtLeast (to + 1) xs → within_range from to xs ≡ []
none_above from to [] h = refl
none_above from to (x ∷ xs) h =
    let above = h.0 in
    let other : nat_le (leaf_rank x) to ≡ false = grind (arith, nat_tests, above) in
    let rest = none_above from to xs h.1 in
    elim (cases_Bool (nat_le from (leaf_rank x))) [
      | inl e ↦ rw e (rw other rest)
      | inr e ↦ rw e rest
    ]

-- those in front and those behind
pub range_both : (from to : ℕ) (all front back : List Leaf) → all ≡ front ++ back → within_range from to all ≡ within_range from to front ++ within_range from to back
range_both from to all front back is = ap (within_range from to) is ∙ filter-append (λ x. in_range from to x) front back

-- those in front have lower ranks
pub range_passed : (from to : ℕ) (all front back : List Leaf) → all ≡ front ++ back → AreBelow from front → within_range from to all ≡ within_range from to back
range_passed from to all front back is low =
    range_both from to all front back is ∙ ap (λ (v : List Leaf). v ++ within_range from to back) (none_below from to front low)

-- those behind have higher ones
pub range_in_front : (from to : ℕ) (all front back : List Leaf) → all ≡ front ++ back → AreAtLeast (to + 1) back → within_range from to all ≡ within_range from to front
range_in_front from to all front back is high =
    range_both from to all front back is ∙ ap (λ (v : List Leaf). within_range from to front ++ v) (none_above from to back high) ∙ append-nil (within_range from to front)
