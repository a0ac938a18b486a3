-- Leaves stay distinct.
use Rattle.std.specs.Prelude.{◌≡◌, ℕ, ◌==◌, Bool, nat_le, not, true, false, List, [], ◌∷◌, filter}
use Rattle.std.specs.List.{AllByRecursion}
use Rattle.std.proofs.Common.{refl, sym, ◌∙◌, arith, inl, inr}
use Rattle.std.proofs.lemmas.Bool.{cases_Bool}
use Rattle.std.proofs.lemmas.Bool.Decides.{nat_tests}
use Rattle.std.proofs.lemmas.Map.Keys.{IsDistinct-head, IsDistinct-tail, IsDistinct-cons, IsDistinct-from_apart}
use Rattle.index_tree.specs.declared.leaf.Leaf.{Leaf}
use Rattle.index_tree.specs.Distinct.{AreDistinct}
use Rattle.index_tree.specs.Order.{leaf_rank, placed}
use Rattle.index_tree.specs.RangeRemoval.{in_range, outside_range}
use Rattle.index_tree.specs.Removal.{same_leaf, holds, without}
use Rattle.index_tree.specs.Replacement.{swapped}

-- the leaf is none of these
abbrev Apart : Leaf → List Leaf → Type 0
Apart x xs = AllByRecursion (λ y. same_leaf x y ≡ false) xs

record SameParts (x y : Leaf) : Type 0 where
  rank : leaf_rank x ≡ leaf_rank y
  lnum : x.lnum ≡ y.lnum
  offs : x.offs ≡ y.offs
  len : x.len ≡ y.len

parts : (x y : Leaf) → same_leaf x y ≡ true → SameParts x y
unfolding same_leaf
parts x y h = elim (cases_Bool (leaf_rank x == leaf_rank y)) [
  | inr e ↦ let none = rw e at h in absurd cc
  | inl e ↦ elim (cases_Bool (x.lnum == y.lnum)) [
    | inr l ↦ let none = rw l at (rw e at h) in absurd cc
    | inl l ↦ elim (cases_Bool (x.offs == y.offs)) [
      | inr o ↦ let none = rw o at (rw l at (rw e at h)) in absurd cc
      | inl o ↦
          let n : (x.len == y.len) ≡ true = rw o at (rw l at (rw e at h)) in
          record { rank = grind (arith, nat_tests); lnum = grind (arith, nat_tests); offs = grind (arith, nat_tests); len = grind (arith, nat_tests) }
    ]
  ]
]

same_number : (m n : ℕ) → m ≡ n → (m == n) ≡ true
same_number m n e = grind (arith, nat_tests)

whole : (x y : Leaf) → SameParts x y → same_leaf x y ≡ true
unfolding same_leaf
whole x y p = rw (same_number (leaf_rank x) (leaf_rank y) p.rank, same_number x.lnum y.lnum p.lnum, same_number x.offs y.offs p.offs, same_number x.len y.len p.len) refl

turned : (x y : Leaf) → SameParts x y → SameParts y x
turned x y p = record { rank = sym p.rank; lnum = sym p.lnum; offs = sym p.offs; len = sym p.len }

through : (x y z : Leaf) → SameParts x y → SameParts z y → SameParts x z
through x y z p q = record { rank = p.rank ∙ sym q.rank; lnum = p.lnum ∙ sym q.lnum; offs = p.offs ∙ sym q.offs; len = p.len ∙ sym q.len }

-- a leaf that isn't there is none of these
apart-absent : (x : Leaf) (xs : List Leaf) → holds x xs ≡ false → Apart x xs
apart-absent x [] h = tt
apart-absent x (y ∷ ys) h = elim (cases_Bool (same_leaf y x)) [
  | inl e ↦ let none = rw e at h in absurd cc
  | inr e ↦ elim (cases_Bool (same_leaf x y)) [
    | inl s ↦ let both = sym (whole y x (turned x y (parts x y s))) ∙ e in absurd cc
    | inr s ↦ (s, apart-absent x ys (rw e at h))
  ]
]

-- a leaf that is the same as one of which no other stands here isn't there
absent-same : (x gone : Leaf) (xs : List Leaf) → same_leaf x gone ≡ true → Apart x xs → holds gone xs ≡ false
absent-same x gone [] s a = refl
absent-same x gone (y ∷ ys) s a = elim (cases_Bool (same_leaf y gone)) [
  | inl e ↦ let both = sym (whole x y (through x gone y (parts x gone s) (parts y gone e))) ∙ a.0 in absurd cc
  | inr e ↦ rw e (absent-same x gone ys s a.1)
]

apart-placed : (x new : Leaf) (xs : List Leaf) → same_leaf x new ≡ false → Apart x xs → Apart x (placed new xs)
apart-placed x new [] s a = (s, tt)
apart-placed x new (y ∷ ys) s a = elim (cases_Bool (nat_le (leaf_rank y) (leaf_rank new))) [
  | inl e ↦ rw e (a.0, apart-placed x new ys s a.1)
  | inr e ↦ rw e (s, a)
]

apart-without : (x gone : Leaf) (xs : List Leaf) → Apart x xs → Apart x (without gone xs)
apart-without x gone [] a = tt
apart-without x gone (y ∷ ys) a = elim (cases_Bool (same_leaf y gone)) [
  | inl e ↦ rw e a.1
  | inr e ↦ rw e (a.0, apart-without x gone ys a.1)
]

apart-swapped : (x old new : Leaf) (xs : List Leaf) → same_leaf x new ≡ false → Apart x xs → Apart x (swapped old new xs)
apart-swapped x old new [] s a = tt
apart-swapped x old new (y ∷ ys) s a = elim (cases_Bool (same_leaf y old)) [
  | inl e ↦ rw e (s, a.1)
  | inr e ↦ rw e (a.0, apart-swapped x old new ys s a.1)
]

apart-filter : (x : Leaf) (p : Leaf → Bool) (xs : List Leaf) → Apart x xs → Apart x (filter p xs)
apart-filter x p [] a = tt
apart-filter x p (y ∷ ys) a = elim (cases_Bool (p y)) [
  | inl e ↦ rw e (a.0, apart-filter x p ys a.1)
  | inr e ↦ rw e (apart-filter x p ys a.1)
]

-- what a leaf that isn't there differs from
record Absent (new x : Leaf) (xs : List Leaf) : Type 0 where
  head : same_leaf x new ≡ false
  tail : holds new xs ≡ false

absent : (new x : Leaf) (xs : List Leaf) → holds new (x ∷ xs) ≡ false → Absent new x xs
absent new x xs h = elim (cases_Bool (same_leaf x new)) [
  | inl e ↦ let none = rw e at h in absurd cc
  | inr e ↦ record { head = e; tail = rw e at h }
]

pub none-distinct : AreDistinct []
none-distinct = IsDistinct-from_apart same_leaf [] (λ i j d a b. absurd (omega arith))

more : (x : Leaf) (xs : List Leaf) → Apart x xs → AreDistinct xs → AreDistinct (x ∷ xs)
more x xs a d = IsDistinct-cons same_leaf x xs a d

first : (x : Leaf) (xs : List Leaf) → AreDistinct (x ∷ xs) → Apart x xs
first x xs d = IsDistinct-head same_leaf x xs d

others : (x : Leaf) (xs : List Leaf) → AreDistinct (x ∷ xs) → AreDistinct xs
others x xs d = IsDistinct-tail same_leaf x xs d

pub placed-distinct : (new : Leaf) (xs : List Leaf) → holds new xs ≡ false → AreDistinct xs → AreDistinct (placed new xs)
placed-distinct new [] h d = more new [] tt none-distinct
placed-distinct new (x ∷ xs) h d =
    let p = absent new x xs h in
    elim (cases_Bool (nat_le (leaf_rank x) (leaf_rank new))) [
      | inl e ↦ rw e (more x (placed new xs) (apart-placed x new xs p.head (first x xs d)) (placed-distinct new xs p.tail (others x xs d)))
      | inr e ↦ rw e (more new (x ∷ xs) (apart-absent new (x ∷ xs) h) d)
    ]

pub without-distinct : (gone : Leaf) (xs : List Leaf) → AreDistinct xs → AreDistinct (without gone xs)
without-distinct gone [] d = none-distinct
without-distinct gone (x ∷ xs) d = elim (cases_Bool (same_leaf x gone)) [
  | inl e ↦ rw e (others x xs d)
  | inr e ↦ rw e (more x (without gone xs) (apart-without x gone xs (first x xs d)) (without-distinct gone xs (others x xs d)))
]

pub without-gone : (gone : Leaf) (xs : List Leaf) → AreDistinct xs → holds gone (without gone xs) ≡ false
without-gone gone [] d = refl
without-gone gone (x ∷ xs) d = elim (cases_Bool (same_leaf x gone)) [
  | inl e ↦ rw e (absent-same x gone xs e (first x xs d))
  | inr e ↦ rw e (rw e (without-gone gone xs (others x xs d)))
]

filter-distinct : (p : Leaf → Bool) (xs : List Leaf) → AreDistinct xs → AreDistinct (filter p xs)
filter-distinct p [] d = none-distinct
filter-distinct p (x ∷ xs) d = elim (cases_Bool (p x)) [
  | inl e ↦ rw e (more x (filter p xs) (apart-filter x p xs (first x xs d)) (filter-distinct p xs (others x xs d)))
  | inr e ↦ rw e (filter-distinct p xs (others x xs d))
]

pub outside-distinct : (from to : ℕ) (xs : List Leaf) → AreDistinct xs → AreDistinct (outside_range from to xs)
outside-distinct from to xs d = filter-distinct (λ x. not (in_range from to x)) xs d

pub swapped-distinct : (old new : Leaf) (xs : List Leaf) → holds new xs ≡ false → AreDistinct xs → AreDistinct (swapped old new xs)
swapped-distinct old new [] h d = none-distinct
swapped-distinct old new (x ∷ xs) h d =
    let p = absent new x xs h in
    elim (cases_Bool (same_leaf x old)) [
      | inl e ↦ rw e (more new xs (apart-absent new xs p.tail) (others x xs d))
      | inr e ↦ rw e (more x (swapped old new xs) (apart-swapped x old new xs p.head (first x xs d)) (swapped-distinct old new xs p.tail (others x xs d)))
    ]
