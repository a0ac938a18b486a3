-- Leaves stay distinct.
use Rattle.std.specs.Prelude.{◌≡◌, ℕ, ◌==◌, Bool, nat_le, not, true, false, List, [], ◌∷◌, filter}
use Rattle.std.specs.List.{AllByRecursion}
use Rattle.std.proofs.Common.{refl, ◌∙◌, arith, inl, inr, cond}
use Rattle.std.proofs.lemmas.Bool.{cases_Bool}
use Rattle.std.proofs.lemmas.Bool.Decides.{nat_tests}
use Rattle.std.proofs.lemmas.Map.Keys.{IsDistinct-head, IsDistinct-tail, IsDistinct-cons, IsDistinct-from_apart}
use Rattle.index_tree.specs.declared.leaf.Leaf.{Leaf}
use Rattle.index_tree.specs.Distinct.{AreDistinct}
use Rattle.index_tree.specs.Order.{leaf_rank}
use Rattle.index_tree.specs.Removal.{same_leaf, holds}
use Rattle.fs_model.specs.declared.change.Change.{Change}
use Rattle.leaf_map.specs.After.{is_gone, is_idle, is_set, kept_by, put_leaf}
use Rattle.leaf_map.specs.Kept.{Kept}
use Rattle.leaf_map.proofs.Ranks.{leaves}

abbrev pub Apart : Leaf → List Leaf → Type 0
Apart x xs = AllByRecursion (λ y. same_leaf x y ≡ false) xs

same_number : (m n : ℕ) → (m == n) ≡ (n == m)
same_number m n = grind (arith, nat_tests)

-- whether two leaves are the same goes both ways
same_turned : (x y : Leaf) → same_leaf x y ≡ same_leaf y x
unfolding same_leaf
same_turned x y = rw (same_number (leaf_rank x) (leaf_rank y), same_number x.lnum y.lnum, same_number x.offs y.offs, same_number x.len y.len) refl

record Absent (new x : Leaf) (xs : List Leaf) : Type 0 where
  head : same_leaf x new ≡ false
  tail : holds new xs ≡ false

absent : (new x : Leaf) (xs : List Leaf) → holds new (x ∷ xs) ≡ false → Absent new x xs
absent new x xs h = elim (cases_Bool (same_leaf x new)) [
  | inl e ↦ let none = rw e at h in absurd cc
  | inr e ↦ record { head = e; tail = rw e at h }
]

apart-absent : (x : Leaf) (xs : List Leaf) → holds x xs ≡ false → Apart x xs
apart-absent x [] h = tt
apart-absent x (y ∷ ys) h = let p = absent x y ys h in (same_turned x y ∙ p.head, apart-absent x ys p.tail)

none-distinct : AreDistinct []
none-distinct = IsDistinct-from_apart same_leaf [] (λ i j d a b. absurd (omega arith))

apart-put : (x : Leaf) (old : Kept → Bool) (new : Kept) (kept : List Kept) → same_leaf x new.leaf ≡ false → Apart x (leaves kept) → Apart x (leaves (put_leaf old new kept))
apart-put x old new [] s a = (s, tt)
apart-put x old new (y ∷ kept) s a = by (apart-put x old new kept s a.1) (old y) (nat_le (leaf_rank y.leaf) (leaf_rank new.leaf))
  where
    by : Apart x (leaves (put_leaf old new kept)) → (b l : Bool) → Apart x (leaves (cond b (new ∷ kept) (cond l (y ∷ put_leaf old new kept) (new ∷ y ∷ kept))))
    by more true l = (s, a.1)
    by more false true = (a.0, more)
    by more false false = (s, a)

put-distinct : (old : Kept → Bool) (new : Kept) (kept : List Kept) → holds new.leaf (leaves kept) ≡ false → AreDistinct (leaves kept) → AreDistinct (leaves (put_leaf old new kept))
put-distinct old new [] h d = IsDistinct-cons same_leaf new.leaf [] tt none-distinct
put-distinct old new (x ∷ kept) h d =
    let p = absent new.leaf x.leaf (leaves kept) h in
    by p.head (apart-absent new.leaf (leaves (x ∷ kept)) h) (IsDistinct-head same_leaf x.leaf (leaves kept) d) (IsDistinct-tail same_leaf x.leaf (leaves kept) d)
    (put-distinct old new kept p.tail (IsDistinct-tail same_leaf x.leaf (leaves kept) d)) (old x) (nat_le (leaf_rank x.leaf) (leaf_rank new.leaf))
  where
    by : same_leaf x.leaf new.leaf ≡ false → Apart new.leaf (leaves (x ∷ kept)) → Apart x.leaf (leaves kept) → AreDistinct (leaves kept) → AreDistinct (leaves (put_leaf old new kept)) → (b l : Bool)
        → AreDistinct (leaves (cond b (new ∷ kept) (cond l (x ∷ put_leaf old new kept) (new ∷ x ∷ kept))))
    by s a first rest more true l = IsDistinct-cons same_leaf new.leaf (leaves kept) a.1 rest
    by s a first rest more false true = IsDistinct-cons same_leaf x.leaf (leaves (put_leaf old new kept)) (apart-put x.leaf old new kept s first) more
    by s a first rest more false false = IsDistinct-cons same_leaf new.leaf (leaves (x ∷ kept)) a d

apart-filter : (x : Leaf) (stay : Kept → Bool) (kept : List Kept) → Apart x (leaves kept) → Apart x (leaves (filter stay kept))
apart-filter x stay [] a = tt
apart-filter x stay (y ∷ kept) a = by (apart-filter x stay kept a.1) (stay y)
  where
    by : Apart x (leaves (filter stay kept)) → (b : Bool) → Apart x (leaves (cond b (y ∷ filter stay kept) (filter stay kept)))
    by more true = (a.0, more)
    by more false = more

pub filter-distinct : (stay : Kept → Bool) (kept : List Kept) → AreDistinct (leaves kept) → AreDistinct (leaves (filter stay kept))
filter-distinct stay [] d = none-distinct
filter-distinct stay (x ∷ kept) d =
    by (apart-filter x.leaf stay kept (IsDistinct-head same_leaf x.leaf (leaves kept) d)) (filter-distinct stay kept (IsDistinct-tail same_leaf x.leaf (leaves kept) d)) (stay x)
  where
    by : Apart x.leaf (leaves (filter stay kept)) → AreDistinct (leaves (filter stay kept)) → (b : Bool) → AreDistinct (leaves (cond b (x ∷ filter stay kept) (filter stay kept)))
    by first more true = IsDistinct-cons same_leaf x.leaf (leaves (filter stay kept)) first more
    by first more false = more

pub after-distinct : (change : Change) (new : Kept) (kept : List Kept) → holds new.leaf (leaves kept) ≡ false → AreDistinct (leaves kept) → AreDistinct (leaves (kept_by change new kept))
after-distinct change new kept h d = by (is_idle kept change) (is_set change)
  where
    by : (i s : Bool) → AreDistinct (leaves (cond i kept (cond s (put_leaf (is_gone change) new kept) (filter (λ x. not (is_gone change x)) kept))))
    by true s = d
    by false true = put-distinct (is_gone change) new kept h d
    by false false = filter-distinct (λ x. not (is_gone change x)) kept d
