-- Bytes of leaves add up over a change.
use Rattle.std.proofs.Common.{◌≡◌, ℕ, ◌+◌, Bool, true, false, cond, not, ◌&&◌, List, [], ◌∷◌, refl, ap, arith, Some}
use Rattle.std.specs.Prelude.{nat_le, filter}
use Rattle.std.specs.List.{list_all, AllByRecursion}
use Rattle.std.proofs.lemmas.Bool.{and_parts, leb-false}
use Rattle.std.proofs.lemmas.List.Sums.{sum_by-cons}
use Rattle.index_tree.specs.Order.{leaf_rank, ordered_from}
use Rattle.fs_model.specs.declared.change.Change.{Change}
use Rattle.leaf_map.specs.After.{come_by, gone_by, is_gone, is_idle, is_set, kept_by, put_leaf, used_by}
use Rattle.leaf_map.specs.Kept.{Kept, kept_bytes, shown_by}
use Rattle.leaf_map.specs.LeafMap.{IsKeyed, IsLeafMap, are_apart, shows_same}
use Rattle.leaf_map.specs.RankLaws.{rank_shown}
use Rattle.leaf_map.proofs.Apart.{none_above, none_after}
use Rattle.leaf_map.proofs.Ranks.{leaves, ordered_all}

-- where none passes there is none
none_passes : (test : Kept → Bool) (kept : List Kept) → list_all (λ y. not (test y)) kept ≡ true → filter test kept ≡ []
none_passes test [] h = refl
none_passes test (x ∷ kept) h = by (none_passes test kept) (test x) h
  where
    by : (list_all (λ y. not (test y)) kept ≡ true → filter test kept ≡ []) → (b : Bool) → (not b && list_all (λ y. not (test y)) kept) ≡ true → cond b (x ∷ filter test kept) (filter test kept) ≡ []
    by more true t = absurd cc
    by more false t = more t

filtered : (test : Kept → Bool) (kept : List Kept) → used_by (filter (λ x. not (test x)) kept) + used_by (filter test kept) ≡ used_by kept
filtered test [] = refl
filtered test (x ∷ kept) = by (filtered test kept) (test x)
  where
    by : used_by (filter (λ x. not (test x)) kept) + used_by (filter test kept) ≡ used_by kept → (b : Bool)
        → used_by (cond (not b) (x ∷ filter (λ x. not (test x)) kept) (filter (λ x. not (test x)) kept)) + used_by (cond b (x ∷ filter test kept) (filter test kept)) ≡ used_by (x ∷ kept)
    by more true = let a = sum_by-cons kept_bytes x (filter test kept) in let b = sum_by-cons kept_bytes x kept in omega (arith, more, a, b)
    by more false = let a = sum_by-cons kept_bytes x (filter (λ x. not (test x)) kept) in let b = sum_by-cons kept_bytes x kept in omega (arith, more, a, b)

put_bytes : (change : Change) (new : Kept) (kept : List Kept) (low : ℕ) → is_set change ≡ true → leaf_rank new.leaf ≡ rank_shown (Some change) → AllByRecursion IsKeyed kept → ordered_from low (leaves kept) ≡ true → are_apart kept ≡ true
    → used_by (put_leaf (is_gone change) new kept) + used_by (filter (is_gone change) kept) ≡ used_by kept + kept_bytes new
put_bytes change new [] low set r k o h = let a = sum_by-cons kept_bytes new [] in omega (arith, a)
put_bytes change new (x ∷ kept) low set r k o h =
    let q = and_parts (nat_le low (leaf_rank x.leaf)) (ordered_from (leaf_rank x.leaf) (leaves kept)) o in
    let p = and_parts (list_all (λ y. not (shows_same (shown_by x) (shown_by y))) kept) (are_apart kept) h in
    by q.1 p.0 (put_bytes change new kept (leaf_rank x.leaf) set r k.1 q.1 p.1) (is_gone change x) refl (nat_le (leaf_rank x.leaf) (leaf_rank new.leaf)) refl
  where
    old : List Kept
    old = filter (is_gone change) kept

    put : List Kept
    put = put_leaf (is_gone change) new kept

    by : ordered_from (leaf_rank x.leaf) (leaves kept) ≡ true → list_all (λ y. not (shows_same (shown_by x) (shown_by y))) kept ≡ true → used_by put + used_by old ≡ used_by kept + kept_bytes new
        → (b : Bool) → is_gone change x ≡ b → (l : Bool) → nat_le (leaf_rank x.leaf) (leaf_rank new.leaf) ≡ l
        → used_by (cond b (new ∷ kept) (cond l (x ∷ put) (new ∷ x ∷ kept))) + used_by (cond b (x ∷ old) old) ≡ used_by (x ∷ kept) + kept_bytes new
    by rest here more true g l t =
        let none = ap used_by (none_passes (is_gone change) kept (none_after change (shown_by x) kept set g here)) in
        let a = sum_by-cons kept_bytes x old in
        let b = sum_by-cons kept_bytes x kept in
        let d = sum_by-cons kept_bytes new kept in
        omega (arith, none, a, b, d)
    by rest here more false g true t = let a = sum_by-cons kept_bytes x put in let b = sum_by-cons kept_bytes x kept in omega (arith, more, a, b)
    by rest here more false g false t =
        let gt = leb-false (leaf_rank x.leaf) (leaf_rank new.leaf) t in
        let none = ap used_by (none_passes (is_gone change) kept (none_above change kept (leaf_rank x.leaf) set (omega (arith, gt, r)) k.1 (ordered_all (leaf_rank x.leaf) (leaf_rank x.leaf) kept (omega arith) rest))) in
        let b = sum_by-cons kept_bytes x kept in
        let d = sum_by-cons kept_bytes new (x ∷ kept) in
        omega (arith, none, b, d)

-- what is there afterwards and what goes is what was there and what comes
pub bytes_after : (change : Change) (new : Kept) (kept : List Kept) → (is_set change ≡ true → leaf_rank new.leaf ≡ rank_shown (Some change)) → IsLeafMap kept
    → used_by (kept_by change new kept) + used_by (gone_by change kept) ≡ used_by kept + used_by (come_by change new kept)
bytes_after change new kept r is = by (is_idle kept change) (is_set change) refl
  where
    one : used_by (new ∷ []) ≡ kept_bytes new + 0
    one = sum_by-cons kept_bytes new []

    by : (i s : Bool) → is_set change ≡ s
        → used_by (cond i kept (cond s (put_leaf (is_gone change) new kept) (filter (λ x. not (is_gone change x)) kept))) + used_by (cond i [] (filter (is_gone change) kept)) ≡ used_by kept + used_by (cond i [] (cond s (new ∷ []) []))
    by true s e = omega arith
    by false true e = let a = put_bytes change new kept 0 e (r e) is.keyed is.ordered is.apart in let b = one in omega (arith, a, b)
    by false false e = let a = filtered (is_gone change) kept in omega (arith, a)
