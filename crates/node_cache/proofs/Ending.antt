-- Where the last leaf up to a rank stands, of leaves in front and leaves behind them.
use Rattle.std.proofs.Common.{◌≡◌, ℕ, ◌+◌, false, List, [], ◌∷◌, ◌++◌, refl, ap, sym, ◌∙◌, arith}
use Rattle.std.specs.Prelude.{Option, None, Some, nat_le}
use Rattle.std.specs.List.{last_or}
use Rattle.std.proofs.lemmas.Bool.Decides.{nat_tests}
use Rattle.std.proofs.lemmas.List.Elements.{filter-append}
use Rattle.index_tree.specs.LastBlock.{up_to}
use Rattle.index_tree.specs.Order.{leaf_rank}
use Rattle.index_tree.specs.declared.leaf.Leaf.{Leaf}
use Rattle.index_media.specs.KeyedBounds.{AreAtLeast}

-- the last leaf up to a rank
abbrev pub last_up_to : ℕ → List Leaf → Option Leaf
last_up_to at xs = last_or None (up_to at xs)

append : (o : Option Leaf) (xs ys : List Leaf) → last_or o (xs ++ ys) ≡ last_or (last_or o xs) ys
append o [] ys = refl
append o (x ∷ xs) ys = append (Some x) xs ys

present : (o : Option Leaf) (ys : List Leaf) (y : Leaf) → last_or None ys ≡ Some y → last_or o ys ≡ Some y
present o [] y h = absurd cc
present o (z ∷ zs) y h = h

some_last : (y : Leaf) (ys : List Leaf) → (z : Leaf) × (last_or (Some y) ys ≡ Some z)
some_last y [] = (y, refl)
some_last y (z ∷ ys) = some_last z ys

absent : (o : Option Leaf) (ys : List Leaf) → last_or None ys ≡ None → last_or o ys ≡ o
absent o [] h = refl
absent o (z ∷ zs) h = let p = some_last z zs in let e = sym h ∙ p.1 in absurd cc

both : (at : ℕ) (all front back : List Leaf) → all ≡ front ++ back → last_up_to at all ≡ last_or (last_up_to at front) (up_to at back)
both at all front back is =
    ap (last_up_to at) is ∙ ap (λ (v : List Leaf). last_or None v) (filter-append (λ x. nat_le (leaf_rank x) at) front back) ∙ append None (up_to at front) (up_to at back)

-- it is behind
pub last_behind : (at : ℕ) (all front back : List Leaf) (x : Leaf) → all ≡ front ++ back → last_up_to at back ≡ Some x → last_up_to at all ≡ Some x
last_behind at all front back x is h = both at all front back is ∙ present (last_up_to at front) (up_to at back) x h

-- or in front, where none is behind
pub last_in_front : (at : ℕ) (all front back : List Leaf) → all ≡ front ++ back → last_up_to at back ≡ None → last_up_to at all ≡ last_up_to at front
last_in_front at all front back is h = both at all front back is ∙ absent (last_up_to at front) (up_to at back) h

none_above : (at : ℕ) (xs : List Leaf) → AreAtLeast (at + 1) xs → up_to at xs ≡ []
none_above at [] h = refl
none_above at (x ∷ xs) h =
    let above = h.0 in
    let other : nat_le (leaf_rank x) at ≡ false = grind (arith, nat_tests, above) in
    rw other (none_above at xs h.1)

-- those behind have higher ranks
pub last_above : (at : ℕ) (xs : List Leaf) → AreAtLeast (at + 1) xs → last_up_to at xs ≡ None
last_above at xs h = ap (λ (v : List Leaf). last_or None v) (none_above at xs h)
