-- What a change makes of leaves, told of the leaves alone: one takes another's place, or goes behind all of no greater key, or goes.
use Rattle.std.specs.Prelude.{◌≡◌, ℕ, ◌==◌, Bool, true, false, not, nat_le, List, [], ◌∷◌, filter, Option, Some, None}
use Rattle.std.specs.List.{AllByRecursion, find, list_all}
use Rattle.std.proofs.Common.{refl, sym, ap, ◌∙◌, arith, cond, ◌&&◌}
use Rattle.std.proofs.lemmas.Bool.{and_parts, leb-false}
use Rattle.std.proofs.lemmas.Bool.Decides.{nat_tests}
use Rattle.std.proofs.lemmas.Map.Keys.{IsDistinct-head, IsDistinct-tail}
use Rattle.index_tree.specs.declared.leaf.Leaf.{Leaf}
use Rattle.index_tree.specs.Distinct.{AreDistinct}
use Rattle.index_tree.specs.Order.{leaf_rank, ordered_from}
use Rattle.index_tree.specs.Removal.{same_leaf}
use Rattle.fs_model.specs.declared.change.Change.{Change}
use Rattle.fs_model.specs.declared.change.Change.TheVariants.{SetEntry, DropEntry}
use Rattle.fs_model.specs.declared.inode.Entry.{Entry}
use Rattle.fs_model.specs.declared.inode.Kind.TheVariants.{File}
use Rattle.leaf_map.specs.After.{goes, is_gone, is_idle, is_set, kept_by, put_leaf}
use Rattle.leaf_map.specs.Follows.{with_leaf, without_old}
use Rattle.leaf_map.specs.Kept.{Kept, shown_by}
use Rattle.leaf_map.specs.LeafMap.{IsKeyed, IsLeafMap, are_apart, shows_same}
use Rattle.leaf_map.specs.RankLaws.{rank_shown}
use Rattle.leaf_map.proofs.Apart.{none_above, none_after}
use Rattle.leaf_map.proofs.Distinct.{Apart}
use Rattle.leaf_map.proofs.Ranks.{leaves, ordered_all}

same_itself : (x : Leaf) → same_leaf x x ≡ true
unfolding same_leaf
same_itself x = rw (same_number (leaf_rank x), same_number x.lnum, same_number x.offs, same_number x.len) refl
  where
    same_number : (n : ℕ) → (n == n) ≡ true
    same_number n = grind (arith, nat_tests)

-- none passes, so none is found
none_found : (test : Kept → Bool) (kept : List Kept) → list_all (λ y. not (test y)) kept ≡ true → find test kept ≡ None
none_found test [] h = refl
none_found test (x ∷ kept) h = by (none_found test kept) (test x) h
  where
    by : (list_all (λ y. not (test y)) kept ≡ true → find test kept ≡ None) → (b : Bool) → (not b && list_all (λ y. not (test y)) kept) ≡ true → cond b (Some x) (find test kept) ≡ None
    by more true t = absurd cc
    by more false t = more t

apart_found : (test : Kept → Bool) (x : Leaf) (old : Kept) (kept : List Kept) → find test kept ≡ Some old → Apart x (leaves kept) → same_leaf x old.leaf ≡ false
apart_found test x old [] f a = absurd cc
apart_found test x old (y ∷ kept) f a = by (λ g. apart_found test x old kept g a.1) (test y) f
  where
    by : (find test kept ≡ Some old → same_leaf x old.leaf ≡ false) → (b : Bool) → cond b (Some y) (find test kept) ≡ Some old → same_leaf x old.leaf ≡ false
    by more true g = let same : y ≡ old = cc g in ap (λ (z : Kept). same_leaf x z.leaf) (sym same) ∙ a.0
    by more false g = more g

put_follows : (change : Change) (new : Kept) (kept : List Kept) (low : ℕ) → is_set change ≡ true → leaf_rank new.leaf ≡ rank_shown (Some change) → AllByRecursion IsKeyed kept → ordered_from low (leaves kept) ≡ true → AreDistinct (leaves kept)
    → leaves (put_leaf (is_gone change) new kept) ≡ with_leaf (find (is_gone change) kept) new.leaf (leaves kept)
put_follows change new [] low set r k o d = refl
put_follows change new (x ∷ kept) low set r k o d =
    let q = and_parts (nat_le low (leaf_rank x.leaf)) (ordered_from (leaf_rank x.leaf) (leaves kept)) o in
    by q.1 (IsDistinct-head same_leaf x.leaf (leaves kept) d) (put_follows change new kept (leaf_rank x.leaf) set r k.1 q.1 (IsDistinct-tail same_leaf x.leaf (leaves kept) d)) (is_gone change x) refl (nat_le (leaf_rank x.leaf) (leaf_rank new.leaf)) refl
  where
    put : List Kept
    put = put_leaf (is_gone change) new kept

    past : Apart x.leaf (leaves kept) → nat_le (leaf_rank x.leaf) (leaf_rank new.leaf) ≡ true → (o : Option Kept) → find (is_gone change) kept ≡ o → leaves put ≡ with_leaf o new.leaf (leaves kept) → leaves (x ∷ put) ≡ with_leaf o new.leaf (leaves (x ∷ kept))
    past a t None f more = rw t (ap (λ z. x.leaf ∷ z) more)
    past a t (Some old) f more = rw (apart_found (is_gone change) x.leaf old kept f a) (ap (λ z. x.leaf ∷ z) more)

    before : nat_le (leaf_rank x.leaf) (leaf_rank new.leaf) ≡ false → (o : Option Kept) → o ≡ None → leaves (new ∷ x ∷ kept) ≡ with_leaf o new.leaf (leaves (x ∷ kept))
    before t None e = rw t refl
    before t (Some old) e = absurd cc

    by : ordered_from (leaf_rank x.leaf) (leaves kept) ≡ true → Apart x.leaf (leaves kept) → leaves put ≡ with_leaf (find (is_gone change) kept) new.leaf (leaves kept)
        → (b : Bool) → is_gone change x ≡ b → (l : Bool) → nat_le (leaf_rank x.leaf) (leaf_rank new.leaf) ≡ l
        → leaves (cond b (new ∷ kept) (cond l (x ∷ put) (new ∷ x ∷ kept))) ≡ with_leaf (cond b (Some x) (find (is_gone change) kept)) new.leaf (leaves (x ∷ kept))
    by rest a more true g l t = rw (same_itself x.leaf) refl
    by rest a more false g true t = past a t (find (is_gone change) kept) refl more
    by rest a more false g false t =
        let gt = leb-false (leaf_rank x.leaf) (leaf_rank new.leaf) t in
        before t (find (is_gone change) kept) (none_found (is_gone change) kept (none_above change kept (leaf_rank x.leaf) set (omega (arith, gt, r)) k.1 (ordered_all (leaf_rank x.leaf) (leaf_rank x.leaf) kept (omega arith) rest)))

-- a name that goes does so as one that is set
as_entry : ℕ → List ℕ → Entry
as_entry dir name = record { dir = dir; name = name; ino = 0; kind = File }

as_set : (dir : ℕ) (name : List ℕ) (s : Option Change) → goes (DropEntry dir name) s ≡ goes (SetEntry (as_entry dir name)) s
unfolding as_entry
as_set dir name (Some (SetEntry old)) = refl
as_set dir name s = refl

none_more : (dir : ℕ) (name : List ℕ) (s : Option Change) (kept : List Kept) → goes (DropEntry dir name) s ≡ true → list_all (λ y. not (shows_same s (shown_by y))) kept ≡ true → filter (λ y. not (is_gone (DropEntry dir name) y)) kept ≡ kept
none_more dir name s kept g h = all_stay kept (none_after (SetEntry (as_entry dir name)) s kept refl (sym (as_set dir name s) ∙ g) h)
  where
    all_stay : (ys : List Kept) → list_all (λ y. not (is_gone (SetEntry (as_entry dir name)) y)) ys ≡ true → filter (λ y. not (is_gone (DropEntry dir name) y)) ys ≡ ys
    all_stay [] t = refl
    all_stay (y ∷ ys) t =
        let p = and_parts (not (is_gone (SetEntry (as_entry dir name)) y)) (list_all (λ y. not (is_gone (SetEntry (as_entry dir name)) y)) ys) t in
        let stays : not (is_gone (DropEntry dir name) y) ≡ true = ap not (as_set dir name (shown_by y)) ∙ p.0 in
        rw stays (ap (λ z. y ∷ z) (all_stay ys p.1))

drop_follows : (dir : ℕ) (name : List ℕ) (kept : List Kept) → are_apart kept ≡ true → AreDistinct (leaves kept)
    → leaves (filter (λ x. not (is_gone (DropEntry dir name) x)) kept) ≡ without_old (find (is_gone (DropEntry dir name)) kept) (leaves kept)
drop_follows dir name [] h d = refl
drop_follows dir name (x ∷ kept) h d =
    let p = and_parts (list_all (λ y. not (shows_same (shown_by x) (shown_by y))) kept) (are_apart kept) h in
    by p.0 (IsDistinct-head same_leaf x.leaf (leaves kept) d) (drop_follows dir name kept p.1 (IsDistinct-tail same_leaf x.leaf (leaves kept) d)) (is_gone (DropEntry dir name) x) refl
  where
    gone : Kept → Bool
    gone = is_gone (DropEntry dir name)

    past : Apart x.leaf (leaves kept) → (o : Option Kept) → find gone kept ≡ o → leaves (filter (λ x. not (gone x)) kept) ≡ without_old o (leaves kept) → leaves (x ∷ filter (λ x. not (gone x)) kept) ≡ without_old o (leaves (x ∷ kept))
    past a None f more = ap (λ z. x.leaf ∷ z) more
    past a (Some old) f more = rw (apart_found gone x.leaf old kept f a) (ap (λ z. x.leaf ∷ z) more)

    by : list_all (λ y. not (shows_same (shown_by x) (shown_by y))) kept ≡ true → Apart x.leaf (leaves kept) → leaves (filter (λ x. not (gone x)) kept) ≡ without_old (find gone kept) (leaves kept)
        → (b : Bool) → gone x ≡ b → leaves (cond (not b) (x ∷ filter (λ x. not (gone x)) kept) (filter (λ x. not (gone x)) kept)) ≡ without_old (cond b (Some x) (find gone kept)) (leaves (x ∷ kept))
    by here a more true g = rw (same_itself x.leaf) (ap leaves (none_more dir name (shown_by x) kept g here))
    by here a more false g = past a (find gone kept) refl more

pub set_follows : (change : Change) (new : Kept) (kept : List Kept) → is_set change ≡ true → leaf_rank new.leaf ≡ rank_shown (Some change) → IsLeafMap kept → AreDistinct (leaves kept)
    → leaves (put_leaf (is_gone change) new kept) ≡ with_leaf (find (is_gone change) kept) new.leaf (leaves kept)
set_follows change new kept set r is d = put_follows change new kept 0 set r is.keyed is.ordered d

pub name_follows : (dir : ℕ) (name : List ℕ) (kept : List Kept) → IsLeafMap kept → AreDistinct (leaves kept)
    → leaves (filter (λ x. not (is_gone (DropEntry dir name) x)) kept) ≡ without_old (find (is_gone (DropEntry dir name)) kept) (leaves kept)
name_follows dir name kept is d = drop_follows dir name kept is.apart d

pub change_follows : (change : Change) (new : Kept) (kept : List Kept) → is_set change ≡ true → is_idle kept change ≡ false → leaf_rank new.leaf ≡ rank_shown (Some change) → IsLeafMap kept → AreDistinct (leaves kept)
    → leaves (kept_by change new kept) ≡ with_leaf (find (is_gone change) kept) new.leaf (leaves kept)
change_follows change new kept set busy r is d = rw (busy, set) (set_follows change new kept set r is d)
