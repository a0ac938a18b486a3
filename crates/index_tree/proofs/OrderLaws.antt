-- What the order of leaves says of a list that is joined of two.
use Rattle.std.specs.Prelude.{◌≡◌, ℕ, ◌<◌, ◌≤◌, ◌==◌, nat_le, true, false, List, [], ◌∷◌, ◌++◌}
use Rattle.std.proofs.Common.{refl, arith, inl, inr}
use Rattle.std.proofs.lemmas.Bool.{cases_Bool}
use Rattle.std.proofs.lemmas.Bool.Decides.{nat_tests}
use Rattle.index_tree.specs.declared.leaf.Leaf.{Leaf}
use Rattle.index_tree.specs.Order.{leaf_rank, ordered_from, starts_within, of_rank}

pub record Head (low : ℕ) (x : Leaf) (xs : List Leaf) : Type 0 where
  pub least : low ≤ leaf_rank x
  pub others : ordered_from (leaf_rank x) xs ≡ true

pub ordered_head : (low : ℕ) (x : Leaf) (xs : List Leaf) → ordered_from low (x ∷ xs) ≡ true → Head low x xs
ordered_head low x xs h = elim (cases_Bool (nat_le low (leaf_rank x))) [
  | inl e ↦ record { least = grind (arith, nat_tests); others = rw e at h }
  | inr e ↦ let none = rw e at h in absurd cc
]

pub ordered_cons : (low : ℕ) (x : Leaf) (xs : List Leaf) → low ≤ leaf_rank x → ordered_from (leaf_rank x) xs ≡ true → ordered_from low (x ∷ xs) ≡ true
ordered_cons low x xs least others =
    let a : nat_le low (leaf_rank x) ≡ true = grind (arith, nat_tests) in
    rw a others

pub ordered-weaken : (low high : ℕ) (xs : List Leaf) → low ≤ high → ordered_from high xs ≡ true → ordered_from low xs ≡ true
ordered-weaken low high [] h o = refl
ordered-weaken low high (x ∷ xs) h o =
    let p = ordered_head high x xs o in
    ordered_cons low x xs (omega (arith, p.least)) p.others

pub ordered-left : (low : ℕ) (xs ys : List Leaf) → ordered_from low (xs ++ ys) ≡ true → ordered_from low xs ≡ true
ordered-left low [] ys o = refl
ordered-left low (x ∷ xs) ys o =
    let p = ordered_head low x (xs ++ ys) o in
    ordered_cons low x xs p.least (ordered-left (leaf_rank x) xs ys p.others)

pub ordered-right : (low : ℕ) (xs ys : List Leaf) → ordered_from low (xs ++ ys) ≡ true → ordered_from low ys ≡ true
ordered-right low [] ys o = o
ordered-right low (x ∷ xs) ys o =
    let p = ordered_head low x (xs ++ ys) o in
    ordered-weaken low (leaf_rank x) ys p.least (ordered-right (leaf_rank x) xs ys p.others)

-- a leaf before the second part isn't above its first leaf
pub low_before : (low k : ℕ) (xs ys : List Leaf) → ordered_from low (xs ++ ys) ≡ true → starts_within k ys ≡ true → low ≤ k
low_before low k [] [] o s = absurd cc
low_before low k [] (y ∷ ys) o s =
    let p = ordered_head low y ys o in
    grind (arith, nat_tests, p.least)
low_before low k (x ∷ xs) ys o s =
    let p = ordered_head low x (xs ++ ys) o in
    omega (arith, p.least, low_before (leaf_rank x) k xs ys p.others s)

-- no leaf of a lower rank stands in a list that begins above it
pub none_above : (low k : ℕ) (xs : List Leaf) → k < low → ordered_from low xs ≡ true → of_rank k xs ≡ []
none_above low k [] h o = refl
none_above low k (x ∷ xs) h o =
    let p = ordered_head low x xs o in
    let other : (leaf_rank x == k) ≡ false = grind (arith, nat_tests, p.least) in
    rw other (none_above (leaf_rank x) k xs (omega (arith, p.least)) p.others)

-- none stands before a second part that begins below it
pub none_before : (low j k : ℕ) (xs ys : List Leaf) → j < k → ordered_from low (xs ++ ys) ≡ true → starts_within j ys ≡ true → of_rank k xs ≡ []
none_before low j k [] ys h o s = refl
none_before low j k (x ∷ xs) ys h o s =
    let p = ordered_head low x (xs ++ ys) o in
    let below = low_before (leaf_rank x) j xs ys p.others s in
    let other : (leaf_rank x == k) ≡ false = grind (arith, nat_tests, below) in
    rw other (none_before (leaf_rank x) j k xs ys h p.others s)

-- none stands in a list that doesn't begin within its rank
pub none_within : (low k : ℕ) (xs : List Leaf) → ordered_from low xs ≡ true → starts_within k xs ≡ false → of_rank k xs ≡ []
none_within low k [] o s = refl
none_within low k (x ∷ xs) o s =
    let p = ordered_head low x xs o in
    let above : k < leaf_rank x = grind (arith, nat_tests) in
    let other : (leaf_rank x == k) ≡ false = grind (arith, nat_tests, above) in
    rw other (none_above (leaf_rank x) k xs above p.others)
