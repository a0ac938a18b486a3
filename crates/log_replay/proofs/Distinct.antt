-- Leaves are distinct if those of names are: an inode or a block has its key alone.
use Rattle.std.proofs.Common.{◌≡◌, ℕ, Bool, true, false, cond, not, List, [], ◌∷◌, refl, sym, ap, ◌∙◌, arith, inl, inr}
use Rattle.std.specs.Prelude.{◌==◌, nat_le, filter}
use Rattle.std.specs.List.{AllByRecursion, list_all}
use Rattle.std.proofs.lemmas.Bool.{false≢true, and_parts, cases_Bool, eqb-true}
use Rattle.std.proofs.lemmas.Bool.Decides.{nat_tests}
use Rattle.std.proofs.lemmas.Map.Keys.{IsDistinct-head, IsDistinct-tail, IsDistinct-cons}
use Rattle.index_tree.specs.declared.leaf.Leaf.{Leaf}
use Rattle.index_tree.specs.Distinct.{AreDistinct}
use Rattle.index_tree.specs.Order.{leaf_rank}
use Rattle.index_tree.specs.Removal.{same_leaf, holds}
use Rattle.leaf_map.specs.After.{put_leaf}
use Rattle.leaf_map.specs.Kept.{Kept, shown_by}
use Rattle.leaf_map.specs.LeafMap.{IsKeyed, are_apart, shows_same}
use Rattle.leaf_map.specs.RankLaws.{rank_is, same_thing}
use Rattle.log_replay.specs.Standing.{is_entry, leaves, names_in}

abbrev pub Apart : Leaf → List Leaf → Type 0
Apart x xs = AllByRecursion (λ y. same_leaf x y ≡ false) xs

same_number : (m n : ℕ) → (m == n) ≡ (n == m)
same_number m n = grind (arith, nat_tests)

-- whether two leaves are the same goes both ways
pub same_turned : (x y : Leaf) → same_leaf x y ≡ same_leaf y x
unfolding same_leaf
same_turned x y = rw (same_number (leaf_rank x) (leaf_rank y), same_number x.lnum y.lnum, same_number x.offs y.offs, same_number x.len y.len) refl

one_rank : (x y : Leaf) → same_leaf x y ≡ true → leaf_rank x ≡ leaf_rank y
unfolding same_leaf
one_rank x y h = by (leaf_rank x == leaf_rank y) refl h
  where
    by : (b : Bool) → (leaf_rank x == leaf_rank y) ≡ b → cond b (cond (x.lnum == y.lnum) (cond (x.offs == y.offs) (x.len == y.len) false) false) false ≡ true → leaf_rank x ≡ leaf_rank y
    by true e t = eqb-true (leaf_rank x) (leaf_rank y) e
    by false e t = absurd (false≢true t)

-- leaves that show neither the same nor names differ
differ : (x y : Kept) → IsKeyed x → IsKeyed y → shows_same (shown_by x) (shown_by y) ≡ false → (is_entry (shown_by x) ≡ true → is_entry (shown_by y) ≡ true → same_leaf x.leaf y.leaf ≡ false) → same_leaf x.leaf y.leaf ≡ false
differ x y k l n names = by (same_leaf x.leaf y.leaf) refl
  where
    by : (b : Bool) → same_leaf x.leaf y.leaf ≡ b → b ≡ false
    by false e = refl
    by true e = elim (same_thing x.leaf y.leaf (shown_by x) (shown_by y) k l (sym (rank_is x.leaf (shown_by x) k) ∙ one_rank x.leaf y.leaf e ∙ rank_is y.leaf (shown_by y) l)) [
      | inl s ↦ absurd (false≢true (sym n ∙ s))
      | inr both ↦ sym e ∙ names both.0 both.1
    ]

not_true : (b : Bool) → not b ≡ true → b ≡ false
not_true true h = absurd (false≢true h)
not_true false h = refl

-- a leaf is apart from all if it is from those of names, where it is one
apart_all : (x : Kept) (kept : List Kept) → IsKeyed x → AllByRecursion IsKeyed kept → list_all (λ y. not (shows_same (shown_by x) (shown_by y))) kept ≡ true
    → (is_entry (shown_by x) ≡ true → Apart x.leaf (leaves (names_in kept))) → Apart x.leaf (leaves kept)
apart_all x [] k all h a = tt
apart_all x (y ∷ kept) k all h a =
    let p = and_parts (not (shows_same (shown_by x) (shown_by y))) (list_all (λ y. not (shows_same (shown_by x) (shown_by y))) kept) h in
    by (not_true (shows_same (shown_by x) (shown_by y)) p.0) (apart_all x kept k all.1 p.1) (is_entry (shown_by y)) refl a
  where
    by : shows_same (shown_by x) (shown_by y) ≡ false → ((is_entry (shown_by x) ≡ true → Apart x.leaf (leaves (names_in kept))) → Apart x.leaf (leaves kept))
        → (b : Bool) → is_entry (shown_by y) ≡ b → (is_entry (shown_by x) ≡ true → Apart x.leaf (leaves (cond b (y ∷ names_in kept) (names_in kept)))) → Apart x.leaf (leaves (y ∷ kept))
    by n more true e f = (differ x y k all.0 n (λ g i. (f g).0), more (λ g. (f g).1))
    by n more false e f = (differ x y k all.0 n (λ g i. absurd (false≢true (sym e ∙ i))), more f)

pub all_distinct : (kept : List Kept) → AllByRecursion IsKeyed kept → are_apart kept ≡ true → AreDistinct (leaves (names_in kept)) → AreDistinct (leaves kept)
all_distinct [] k h d = d
all_distinct (x ∷ kept) k h d =
    let p = and_parts (list_all (λ y. not (shows_same (shown_by x) (shown_by y))) kept) (are_apart kept) h in
    by p.0 (all_distinct kept k.1 p.1) (is_entry (shown_by x)) refl d
  where
    by : list_all (λ y. not (shows_same (shown_by x) (shown_by y))) kept ≡ true → (AreDistinct (leaves (names_in kept)) → AreDistinct (leaves kept)) → (b : Bool) → is_entry (shown_by x) ≡ b
        → AreDistinct (leaves (cond b (x ∷ names_in kept) (names_in kept))) → AreDistinct (leaves (x ∷ kept))
    by q more true e f =
        IsDistinct-cons same_leaf x.leaf (leaves kept) (apart_all x kept k.0 k.1 q (λ g. IsDistinct-head same_leaf x.leaf (leaves (names_in kept)) f)) (more (IsDistinct-tail same_leaf x.leaf (leaves (names_in kept)) f))
    by q more false e f = IsDistinct-cons same_leaf x.leaf (leaves kept) (apart_all x kept k.0 k.1 q (λ g. absurd (false≢true (sym e ∙ g)))) (more f)

-- ---- what changes make of the leaves of names
-- an inode or a block is put
pub names_beside : (old : Kept → Bool) (new : Kept) (kept : List Kept) → is_entry (shown_by new) ≡ false → ((x : Kept) → old x ≡ true → is_entry (shown_by x) ≡ false) → names_in (put_leaf old new kept) ≡ names_in kept
names_beside old new [] n h = rw n refl
names_beside old new (x ∷ kept) n h = by (names_beside old new kept n h) (old x) refl (nat_le (leaf_rank x.leaf) (leaf_rank new.leaf))
  where
    by : names_in (put_leaf old new kept) ≡ names_in kept → (b : Bool) → old x ≡ b → (l : Bool) → names_in (cond b (new ∷ kept) (cond l (x ∷ put_leaf old new kept) (new ∷ x ∷ kept))) ≡ names_in (x ∷ kept)
    by more true o l = rw (n, h x o) refl
    by more false o true = ap (λ z. cond (is_entry (shown_by x)) (x ∷ z) z) more
    by more false o false = rw n refl

-- inodes and blocks go
pub names_stay : (gone : Kept → Bool) (kept : List Kept) → ((x : Kept) → gone x ≡ true → is_entry (shown_by x) ≡ false) → names_in (filter (λ x. not (gone x)) kept) ≡ names_in kept
names_stay gone [] h = refl
names_stay gone (x ∷ kept) h = by (names_stay gone kept h) (gone x) refl
  where
    left : List Kept
    left = filter (λ x. not (gone x)) kept

    by : names_in left ≡ names_in kept → (b : Bool) → gone x ≡ b → names_in (cond (not b) (x ∷ left) left) ≡ names_in (x ∷ kept)
    by more true g = rw (h x g) more
    by more false g = ap (λ z. cond (is_entry (shown_by x)) (x ∷ z) z) more

-- names go
apart_left : (x : Leaf) (stay : Kept → Bool) (kept : List Kept) → Apart x (leaves (names_in kept)) → Apart x (leaves (names_in (filter stay kept)))
apart_left x stay [] a = tt
apart_left x stay (y ∷ kept) a = by (apart_left x stay kept) (is_entry (shown_by y)) refl (stay y) a
  where
    by : (Apart x (leaves (names_in kept)) → Apart x (leaves (names_in (filter stay kept)))) → (e : Bool) → is_entry (shown_by y) ≡ e → (b : Bool)
        → Apart x (leaves (cond e (y ∷ names_in kept) (names_in kept))) → Apart x (leaves (names_in (cond b (y ∷ filter stay kept) (filter stay kept))))
    by more true i true f = rw i (f.0, more f.1)
    by more false i true f = rw i (more f)
    by more true i false f = more f.1
    by more false i false f = more f

pub left_distinct : (stay : Kept → Bool) (kept : List Kept) → AreDistinct (leaves (names_in kept)) → AreDistinct (leaves (names_in (filter stay kept)))
left_distinct stay [] d = d
left_distinct stay (x ∷ kept) d = by (left_distinct stay kept) (is_entry (shown_by x)) refl (stay x) d
  where
    by : (AreDistinct (leaves (names_in kept)) → AreDistinct (leaves (names_in (filter stay kept)))) → (e : Bool) → is_entry (shown_by x) ≡ e → (b : Bool)
        → AreDistinct (leaves (cond e (x ∷ names_in kept) (names_in kept))) → AreDistinct (leaves (names_in (cond b (x ∷ filter stay kept) (filter stay kept))))
    by more true i true f =
        rw i (IsDistinct-cons same_leaf x.leaf (leaves (names_in (filter stay kept))) (apart_left x.leaf stay kept (IsDistinct-head same_leaf x.leaf (leaves (names_in kept)) f)) (more (IsDistinct-tail same_leaf x.leaf (leaves (names_in kept)) f)))
    by more false i true f = rw i (more f)
    by more true i false f = more (IsDistinct-tail same_leaf x.leaf (leaves (names_in kept)) f)
    by more false i false f = more f

-- a name is put
record Absent (new x : Leaf) (xs : List Leaf) : Type 0 where
  head : same_leaf x new ≡ false
  tail : holds new xs ≡ false

absent : (new x : Leaf) (xs : List Leaf) → holds new (x ∷ xs) ≡ false → Absent new x xs
absent new x xs h = elim (cases_Bool (same_leaf x new)) [
  | inl e ↦ let none = rw e at h in absurd cc
  | inr e ↦ record { head = e; tail = rw e at h }
]

apart_absent : (x : Leaf) (xs : List Leaf) → holds x xs ≡ false → Apart x xs
apart_absent x [] h = tt
apart_absent x (y ∷ ys) h = let p = absent x y ys h in (same_turned x y ∙ p.head, apart_absent x ys p.tail)

apart_put : (x : Leaf) (old : Kept → Bool) (new : Kept) (kept : List Kept) → is_entry (shown_by new) ≡ true → same_leaf x new.leaf ≡ false → Apart x (leaves (names_in kept)) → Apart x (leaves (names_in (put_leaf old new kept)))
apart_put x old new [] n s a = rw n (s, tt)
apart_put x old new (y ∷ kept) n s a = by (apart_put x old new kept n s) (is_entry (shown_by y)) refl (old y) (nat_le (leaf_rank y.leaf) (leaf_rank new.leaf)) a
  where
    by : (Apart x (leaves (names_in kept)) → Apart x (leaves (names_in (put_leaf old new kept)))) → (e : Bool) → is_entry (shown_by y) ≡ e → (b l : Bool)
        → Apart x (leaves (cond e (y ∷ names_in kept) (names_in kept))) → Apart x (leaves (names_in (cond b (new ∷ kept) (cond l (y ∷ put_leaf old new kept) (new ∷ y ∷ kept)))))
    by more true i true l f = rw n (s, f.1)
    by more false i true l f = rw n (s, f)
    by more true i false true f = rw i (f.0, more f.1)
    by more false i false true f = rw i (more f)
    by more true i false false f = rw (n, i) (s, f)
    by more false i false false f = rw (n, i) (s, f)

pub put_distinct : (old : Kept → Bool) (new : Kept) (kept : List Kept) → is_entry (shown_by new) ≡ true → holds new.leaf (leaves (names_in kept)) ≡ false → AreDistinct (leaves (names_in kept)) → AreDistinct (leaves (names_in (put_leaf old new kept)))
put_distinct old new [] n h d = rw n (IsDistinct-cons same_leaf new.leaf [] tt d)
put_distinct old new (x ∷ kept) n h d = by (put_distinct old new kept n) (is_entry (shown_by x)) refl (old x) (nat_le (leaf_rank x.leaf) (leaf_rank new.leaf)) h d
  where
    names : List Leaf
    names = leaves (names_in kept)

    by : (holds new.leaf names ≡ false → AreDistinct names → AreDistinct (leaves (names_in (put_leaf old new kept)))) → (e : Bool) → is_entry (shown_by x) ≡ e → (b l : Bool)
        → holds new.leaf (leaves (cond e (x ∷ names_in kept) (names_in kept))) ≡ false → AreDistinct (leaves (cond e (x ∷ names_in kept) (names_in kept)))
        → AreDistinct (leaves (names_in (cond b (new ∷ kept) (cond l (x ∷ put_leaf old new kept) (new ∷ x ∷ kept)))))
    by more true i true l g f = rw n (IsDistinct-cons same_leaf new.leaf names (apart_absent new.leaf names (absent new.leaf x.leaf names g).tail) (IsDistinct-tail same_leaf x.leaf names f))
    by more false i true l g f = rw n (IsDistinct-cons same_leaf new.leaf names (apart_absent new.leaf names g) f)
    by more true i false true g f =
        let p = absent new.leaf x.leaf names g in
        rw i (IsDistinct-cons same_leaf x.leaf (leaves (names_in (put_leaf old new kept))) (apart_put x.leaf old new kept n p.head (IsDistinct-head same_leaf x.leaf names f)) (more p.tail (IsDistinct-tail same_leaf x.leaf names f)))
    by more false i false true g f = rw i (more g f)
    by more true i false false g f = rw (n, i) (IsDistinct-cons same_leaf new.leaf (x.leaf ∷ names) (apart_absent new.leaf (x.leaf ∷ names) g) f)
    by more false i false false g f = rw (n, i) (IsDistinct-cons same_leaf new.leaf names (apart_absent new.leaf names g) f)
