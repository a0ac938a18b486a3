-- Where the leaves of one rank stand, of leaves in front and leaves behind them.
use Rattle.std.proofs.Common.{◌≡◌, ℕ, zero, suc, ◌+◌, false, List, [], ◌∷◌, ◌++◌, length, refl, ap, sym, subst, ◌∙◌, arith, length-append}
use Rattle.std.specs.Prelude.{Some, None, slice_get, ◌==◌}
use Rattle.std.proofs.lemmas.Bool.Decides.{nat_tests}
use Rattle.std.proofs.lemmas.List.Elements.{filter-append}
use Rattle.index_tree.specs.Order.{leaf_rank, of_rank}
use Rattle.index_tree.specs.declared.leaf.Leaf.{Leaf}
use Rattle.index_media.specs.KeyedBounds.{AreAtLeast}
use Rattle.node_cache.specs.Branches.{IsNth}
use Rattle.node_cache.specs.declared.nth.Nth.{Nth}
use Rattle.node_cache.specs.declared.nth.Nth.TheVariants.{Found, Fewer}
use Rattle.node_cache.proofs.Passed.{AreBelow}

none_below : (at : ℕ) (xs : List Leaf) → AreBelow at xs → of_rank at xs ≡ []
none_below at [] h = refl
none_below at (x ∷ xs) h =
    let low = h.0 in
    let other : (leaf_rank x == at) ≡ false = grind (arith, nat_tests, low) in
    rw other (none_below at xs h.1)

none_above : (k : ℕ) (xs : List Leaf) → AreAtLeast (k + 1) xs → of_rank k xs ≡ []
none_above k [] h = refl
none_above k (x ∷ xs) h =
    let above = h.0 in
    let other : (leaf_rank x == k) ≡ false = grind (arith, nat_tests, above) in
    rw other (none_above k xs h.1)

get_first : (xs ys : List Leaf) (i : ℕ) (x : Leaf) → slice_get xs i ≡ Some x → slice_get (xs ++ ys) i ≡ Some x
get_first [] ys i x h = absurd cc
get_first (z ∷ xs) ys zero x h = h
get_first (z ∷ xs) ys (suc i) x h = get_first xs ys i x h

get_second : (xs ys : List Leaf) (i j : ℕ) → i ≡ length xs + j → slice_get (xs ++ ys) i ≡ slice_get ys j
get_second [] ys i j h = let same : i ≡ j = omega (arith, h) in ap (λ n. slice_get ys n) same
get_second (z ∷ xs) ys zero j h = absurd (omega (arith, h))
get_second (z ∷ xs) ys (suc i) j h = get_second xs ys i j (omega (arith, h))

nth_second : (xs ys : List Leaf) (nth left : ℕ) (r : Nth) → IsNth xs nth (Fewer left) → IsNth ys left r → IsNth (xs ++ ys) nth r
nth_second xs ys nth left (Found x) h g = get_second xs ys nth left h ∙ g
nth_second xs ys nth left (Fewer few) h g = let long = length-append xs ys in omega (arith, h, g, long)

parts : (at : ℕ) (all front back : List Leaf) → all ≡ front ++ back → of_rank at all ≡ of_rank at front ++ of_rank at back
parts at all front back is = ap (of_rank at) is ∙ filter-append (λ x. leaf_rank x == at) front back

-- those in front have lower ranks
pub nth_passed : (at : ℕ) (all front back : List Leaf) (nth : ℕ) (r : Nth) → all ≡ front ++ back → AreBelow at front
    → IsNth (of_rank at back) nth r → IsNth (of_rank at all) nth r
nth_passed at all front back nth r is low h =
    let P : List Leaf → Type 0 = λ v. IsNth v nth r in
    subst P (sym (parts at all front back is ∙ ap (λ (v : List Leaf). v ++ of_rank at back) (none_below at front low))) h

-- it is in front
pub nth_in_front : (at : ℕ) (all front back : List Leaf) (nth : ℕ) (x : Leaf) → all ≡ front ++ back → IsNth (of_rank at front) nth (Found x) → IsNth (of_rank at all) nth (Found x)
nth_in_front at all front back nth x is h =
    let P : List Leaf → Type 0 = λ v. IsNth v nth (Found x) in
    subst P (sym (parts at all front back is)) (get_first (of_rank at front) (of_rank at back) nth x h)

-- or behind
pub nth_behind : (at : ℕ) (all front back : List Leaf) (nth left : ℕ) (r : Nth) → all ≡ front ++ back → IsNth (of_rank at front) nth (Fewer left) → IsNth (of_rank at back) left r
    → IsNth (of_rank at all) nth r
nth_behind at all front back nth left r is h g =
    let P : List Leaf → Type 0 = λ v. IsNth v nth r in
    subst P (sym (parts at all front back is)) (nth_second (of_rank at front) (of_rank at back) nth left r h g)

-- those behind have higher ranks
pub nth_above : (at : ℕ) (back : List Leaf) (left : ℕ) → AreAtLeast (at + 1) back → IsNth (of_rank at back) left (Fewer left)
nth_above at back left high = let long = ap length (none_above at back high) in omega (arith, long)

-- where there are too few, there is none
pub none_past : (xs : List Leaf) (nth left : ℕ) → nth ≡ length xs + left → slice_get xs nth ≡ None
none_past [] nth left e = refl
none_past (x ∷ xs) zero left e = absurd (omega (arith, e))
none_past (x ∷ xs) (suc nth) left e = none_past xs nth left (omega (arith, e))

pub as_found : (xs : List Leaf) (at nth : ℕ) (n m : Nth) → n ≡ m → IsNth (of_rank at xs) nth n → IsNth (of_rank at xs) nth m
as_found xs at nth n m e h =
    let P : Nth → Type 0 = λ k. IsNth (of_rank at xs) nth k in
    subst P e h
