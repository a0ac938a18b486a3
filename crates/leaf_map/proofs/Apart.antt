-- What changes keep of leaves: their keys, their order, and that none shows what another one does.
use Rattle.std.proofs.Common.{◌≡◌, ℕ, ◌≤◌, ◌<◌, Bool, true, false, cond, not, List, [], ◌∷◌, refl, sym, subst, ◌∙◌, arith, Option, Some, None}
use Rattle.std.specs.Prelude.{◌==◌, nat_le, filter}
use Rattle.std.specs.List.{list_all, AllByRecursion}
use Rattle.std.proofs.lemmas.Bool.{false≢true, and_parts, and_from, eqb-true, eq-eqb, leb-true, leb-false, le-leb}
use Rattle.index_tree.specs.Order.{leaf_rank, ordered_from}
use Rattle.fs_model.specs.declared.change.Change.{Change}
use Rattle.fs_model.specs.declared.change.Change.TheVariants.{SetInode, SetEntry, DropEntry, SetBlock, CutBlocks, DropInode}
use Rattle.fs_model.specs.Path.{is_same_name}
use Rattle.fs_laws.specs.Maps.{all_filter, all_weaken}
use Rattle.leaf_map.specs.After.{goes, is_gone, is_set, put_leaf}
use Rattle.leaf_map.specs.Kept.{Kept, shown_by}
use Rattle.leaf_map.specs.LeafMap.{HasKeyOf, IsKeyed, IsLeafMap, are_apart, shows_same}
use Rattle.leaf_map.specs.RankLaws.{rank_is, rank_shown}
use Rattle.leaf_map.proofs.Names.{is_name}
use Rattle.leaf_map.proofs.Ranks.{same_rank, leaves, are_from, name_is, ordered_all}

number_turned : (a b : ℕ) → (a == b) ≡ true → (b == a) ≡ true
number_turned a b h = eq-eqb b a (sym (eqb-true a b h))

number_through : (a b c : ℕ) → (a == c) ≡ true → (b == c) ≡ true → (b == a) ≡ true
number_through a b c h g = eq-eqb b a (eqb-true b c g ∙ sym (eqb-true a c h))

name_turned : (a b : List ℕ) → is_same_name a b ≡ true → is_same_name b a ≡ true
name_turned a b h = is_name b a (sym (name_is a b h))

name_through : (a b c : List ℕ) → is_same_name a c ≡ true → is_same_name b c ≡ true → is_same_name b a ≡ true
name_through a b c h g = is_name b a (name_is b c g ∙ sym (name_is a c h))

-- what shows the same as what is set goes
pub turned : (change : Change) (s : Option Change) → is_set change ≡ true → ((c : Change) → s ≡ Some c → is_set c ≡ true) → shows_same s (Some change) ≡ true → goes change s ≡ true
turned change None set all h = absurd (false≢true h)
turned (SetInode ino inode) (Some (SetInode other old)) set all h = number_turned ino other h
turned (SetBlock ino number bytes) (Some (SetBlock other at old)) set all h =
    let p = and_parts (ino == other) (number == at) h in and_from (other == ino) (at == number) (number_turned ino other p.0) (number_turned number at p.1)
turned (SetEntry e) (Some (SetEntry old)) set all h =
    let p = and_parts (e.dir == old.dir) (is_same_name e.name old.name) h in and_from (old.dir == e.dir) (is_same_name old.name e.name) (number_turned e.dir old.dir p.0) (name_turned e.name old.name p.1)
turned change (Some (DropEntry dir name)) set all h = absurd (false≢true (all (DropEntry dir name) refl))
turned change (Some (CutBlocks ino old_size new_size)) set all h = absurd (false≢true (all (CutBlocks ino old_size new_size) refl))
turned change (Some (DropInode ino)) set all h = absurd (false≢true (all (DropInode ino) refl))
turned change (Some other) set all h = absurd (false≢true h)

-- of two that go for what is set each shows the same as the other
pub through : (change : Change) (s t : Option Change) → is_set change ≡ true → goes change s ≡ true → goes change t ≡ true → shows_same s t ≡ true
through (SetInode ino inode) (Some (SetInode a x)) (Some (SetInode b y)) set h g = number_through a b ino h g
through (SetInode ino inode) (Some (SetInode a x)) t set h g = absurd (false≢true g)
through (SetInode ino inode) s t set h g = absurd (false≢true h)
through (SetBlock ino number bytes) (Some (SetBlock a m x)) (Some (SetBlock b n y)) set h g =
    let p = and_parts (a == ino) (m == number) h in
    let q = and_parts (b == ino) (n == number) g in
    and_from (b == a) (n == m) (number_through a b ino p.0 q.0) (number_through m n number p.1 q.1)
through (SetBlock ino number bytes) (Some (SetBlock a m x)) t set h g = absurd (false≢true g)
through (SetBlock ino number bytes) s t set h g = absurd (false≢true h)
through (SetEntry e) (Some (SetEntry a)) (Some (SetEntry b)) set h g =
    let p = and_parts (a.dir == e.dir) (is_same_name a.name e.name) h in
    let q = and_parts (b.dir == e.dir) (is_same_name b.name e.name) g in
    and_from (b.dir == a.dir) (is_same_name b.name a.name) (number_through a.dir b.dir e.dir p.0 q.0) (name_through a.name b.name e.name p.1 q.1)
through (SetEntry e) (Some (SetEntry a)) t set h g = absurd (false≢true g)
through (SetEntry e) s t set h g = absurd (false≢true h)
through change s t set h g = absurd (false≢true set)

-- a keyed leaf shows what is set
pub sets : (x : Kept) (s : Option Change) → HasKeyOf x.leaf s → (c : Change) → s ≡ Some c → is_set c ≡ true
sets x (Some (SetInode ino inode)) h c e = let same : SetInode ino inode ≡ c = cc in subst (λ c. is_set c ≡ true) same refl
sets x (Some (SetBlock ino number bytes)) h c e = let same : SetBlock ino number bytes ≡ c = cc in subst (λ c. is_set c ≡ true) same refl
sets x (Some (SetEntry entry)) h c e = let same : SetEntry entry ≡ c = cc in subst (λ c. is_set c ≡ true) same refl
sets x s h c e = absurd h

-- ---- what is taken out
pub filter_keyed : (stay : Kept → Bool) (kept : List Kept) → AllByRecursion IsKeyed kept → AllByRecursion IsKeyed (filter stay kept)
filter_keyed stay [] k = tt
filter_keyed stay (x ∷ kept) k = by (filter_keyed stay kept k.1) (stay x)
  where
    by : AllByRecursion IsKeyed (filter stay kept) → (b : Bool) → AllByRecursion IsKeyed (cond b (x ∷ filter stay kept) (filter stay kept))
    by more true = (k.0, more)
    by more false = more

pub filter_ordered : (stay : Kept → Bool) (kept : List Kept) (low mark : ℕ) → low ≤ mark → ordered_from mark (leaves kept) ≡ true → ordered_from low (leaves (filter stay kept)) ≡ true
filter_ordered stay [] low mark l h = refl
filter_ordered stay (x ∷ kept) low mark l h =
    let p = and_parts (nat_le mark (leaf_rank x.leaf)) (ordered_from (leaf_rank x.leaf) (leaves kept)) h in
    let here = leb-true mark (leaf_rank x.leaf) p.0 in
    by (le-leb low (leaf_rank x.leaf) (omega (arith, l, here))) (filter_ordered stay kept (leaf_rank x.leaf) (leaf_rank x.leaf) (omega arith) p.1) (filter_ordered stay kept low (leaf_rank x.leaf) (omega (arith, l, here)) p.1) (stay x)
  where
    by : nat_le low (leaf_rank x.leaf) ≡ true → ordered_from (leaf_rank x.leaf) (leaves (filter stay kept)) ≡ true → ordered_from low (leaves (filter stay kept)) ≡ true → (b : Bool)
        → ordered_from low (leaves (cond b (x ∷ filter stay kept) (filter stay kept))) ≡ true
    by le here rest true = and_from (nat_le low (leaf_rank x.leaf)) (ordered_from (leaf_rank x.leaf) (leaves (filter stay kept))) le here
    by le here rest false = rest

pub filter_apart : (stay : Kept → Bool) (kept : List Kept) → are_apart kept ≡ true → are_apart (filter stay kept) ≡ true
filter_apart stay [] h = refl
filter_apart stay (x ∷ kept) h =
    let p = and_parts (list_all (λ y. not (shows_same (shown_by x) (shown_by y))) kept) (are_apart kept) h in
    by (all_filter (λ y. not (shows_same (shown_by x) (shown_by y))) stay kept p.0) (filter_apart stay kept p.1) (stay x)
  where
    by : list_all (λ y. not (shows_same (shown_by x) (shown_by y))) (filter stay kept) ≡ true → are_apart (filter stay kept) ≡ true → (b : Bool) → are_apart (cond b (x ∷ filter stay kept) (filter stay kept)) ≡ true
    by here more true = and_from (list_all (λ y. not (shows_same (shown_by x) (shown_by y))) (filter stay kept)) (are_apart (filter stay kept)) here more
    by here more false = more

pub filter_map : (stay : Kept → Bool) (kept : List Kept) → IsLeafMap kept → IsLeafMap (filter stay kept)
filter_map stay kept is = record { keyed = filter_keyed stay kept is.keyed; ordered = filter_ordered stay kept 0 0 (omega arith) is.ordered; apart = filter_apart stay kept is.apart }

-- ---- what is put
put_keyed : (old : Kept → Bool) (new : Kept) (kept : List Kept) → IsKeyed new → AllByRecursion IsKeyed kept → AllByRecursion IsKeyed (put_leaf old new kept)
put_keyed old new [] n k = (n, tt)
put_keyed old new (x ∷ kept) n k = by (put_keyed old new kept n k.1) (old x) (nat_le (leaf_rank x.leaf) (leaf_rank new.leaf))
  where
    by : AllByRecursion IsKeyed (put_leaf old new kept) → (b l : Bool) → AllByRecursion IsKeyed (cond b (new ∷ kept) (cond l (x ∷ put_leaf old new kept) (new ∷ x ∷ kept)))
    by more true l = (n, k.1)
    by more false true = (k.0, more)
    by more false false = (n, k)

put_ordered : (change : Change) (new : Kept) (kept : List Kept) (low : ℕ) → is_set change ≡ true → leaf_rank new.leaf ≡ rank_shown (Some change) → AllByRecursion IsKeyed kept → low ≤ leaf_rank new.leaf → ordered_from low (leaves kept) ≡ true
    → ordered_from low (leaves (put_leaf (is_gone change) new kept)) ≡ true
put_ordered change new [] low set r k l o = rw (le-leb low (leaf_rank new.leaf) l) refl
put_ordered change new (x ∷ kept) low set r k l o =
    let p = and_parts (nat_le low (leaf_rank x.leaf)) (ordered_from (leaf_rank x.leaf) (leaves kept)) o in
    by p.0 p.1 (λ le. put_ordered change new kept (leaf_rank x.leaf) set r k.1 le p.1) (is_gone change x) refl (nat_le (leaf_rank x.leaf) (leaf_rank new.leaf)) refl
  where
    by : nat_le low (leaf_rank x.leaf) ≡ true → ordered_from (leaf_rank x.leaf) (leaves kept) ≡ true → (leaf_rank x.leaf ≤ leaf_rank new.leaf → ordered_from (leaf_rank x.leaf) (leaves (put_leaf (is_gone change) new kept)) ≡ true)
        → (b : Bool) → is_gone change x ≡ b → (e : Bool) → nat_le (leaf_rank x.leaf) (leaf_rank new.leaf) ≡ e
        → ordered_from low (leaves (cond b (new ∷ kept) (cond e (x ∷ put_leaf (is_gone change) new kept) (new ∷ x ∷ kept)))) ≡ true
    by first rest more true h e t =
        let same = rank_is x.leaf (shown_by x) k.0 ∙ same_rank change (shown_by x) set h ∙ sym r in
        and_from (nat_le low (leaf_rank new.leaf)) (ordered_from (leaf_rank new.leaf) (leaves kept)) (le-leb low (leaf_rank new.leaf) l) (subst (λ n. ordered_from n (leaves kept) ≡ true) same rest)
    by first rest more false h true t = and_from (nat_le low (leaf_rank x.leaf)) (ordered_from (leaf_rank x.leaf) (leaves (put_leaf (is_gone change) new kept))) first (more (leb-true (leaf_rank x.leaf) (leaf_rank new.leaf) t))
    by first rest more false h false t =
        let gt = leb-false (leaf_rank x.leaf) (leaf_rank new.leaf) t in
        and_from (nat_le low (leaf_rank new.leaf)) (ordered_from (leaf_rank new.leaf) (leaves (x ∷ kept))) (le-leb low (leaf_rank new.leaf) l)
        (and_from (nat_le (leaf_rank new.leaf) (leaf_rank x.leaf)) (ordered_from (leaf_rank x.leaf) (leaves kept)) (le-leb (leaf_rank new.leaf) (leaf_rank x.leaf) (omega (arith, gt))) rest)

-- behind a leaf that goes none goes
pub none_after : (change : Change) (s : Option Change) (kept : List Kept) → is_set change ≡ true → goes change s ≡ true → list_all (λ y. not (shows_same s (shown_by y))) kept ≡ true → list_all (λ y. not (is_gone change y)) kept ≡ true
none_after change s kept set h all = all_weaken (λ y. not (shows_same s (shown_by y))) (λ y. not (is_gone change y)) each kept all
  where
    each : (y : Kept) → not (shows_same s (shown_by y)) ≡ true → not (is_gone change y) ≡ true
    each y n = by (is_gone change y) refl
      where
        by : (b : Bool) → is_gone change y ≡ b → not b ≡ true
        by true g = let same = through change s (shown_by y) set h g in let m = rw same at n in m
        by false g = refl

-- nor does one go behind a leaf of a greater key
pub none_above : (change : Change) (kept : List Kept) (low : ℕ) → is_set change ≡ true → rank_shown (Some change) < low → AllByRecursion IsKeyed kept → are_from low kept ≡ true → list_all (λ y. not (is_gone change y)) kept ≡ true
none_above change [] low set l k h = refl
none_above change (x ∷ kept) low set l k h =
    let p = and_parts (nat_le low (leaf_rank x.leaf)) (are_from low kept) h in
    and_from (not (is_gone change x)) (list_all (λ y. not (is_gone change y)) kept) (by (leb-true low (leaf_rank x.leaf) p.0) (is_gone change x) refl) (none_above change kept low set l k.1 p.1)
  where
    by : low ≤ leaf_rank x.leaf → (b : Bool) → is_gone change x ≡ b → not b ≡ true
    by here true g =
        let rank = rank_is x.leaf (shown_by x) k.0 in
        let same = same_rank change (shown_by x) set g in
        absurd (omega (arith, here, rank, same, l))
    by here false g = refl

all_put : (p old : Kept → Bool) (new : Kept) (kept : List Kept) → p new ≡ true → list_all p kept ≡ true → list_all p (put_leaf old new kept) ≡ true
all_put p old new [] n h = rw n refl
all_put p old new (x ∷ kept) n h = let parts = and_parts (p x) (list_all p kept) h in by parts.0 parts.1 (all_put p old new kept n parts.1) (old x) (nat_le (leaf_rank x.leaf) (leaf_rank new.leaf))
  where
    by : p x ≡ true → list_all p kept ≡ true → list_all p (put_leaf old new kept) ≡ true → (b l : Bool) → list_all p (cond b (new ∷ kept) (cond l (x ∷ put_leaf old new kept) (new ∷ x ∷ kept))) ≡ true
    by first rest more true l = and_from (p new) (list_all p kept) n rest
    by first rest more false true = and_from (p x) (list_all p (put_leaf old new kept)) first more
    by first rest more false false = and_from (p new) (list_all p (x ∷ kept)) n h

put_apart : (change : Change) (new : Kept) (kept : List Kept) (low : ℕ) → is_set change ≡ true → shown_by new ≡ Some change → leaf_rank new.leaf ≡ rank_shown (Some change) → AllByRecursion IsKeyed kept → ordered_from low (leaves kept) ≡ true → are_apart kept ≡ true
    → are_apart (put_leaf (is_gone change) new kept) ≡ true
put_apart change new [] low set s r k o h = refl
put_apart change new (x ∷ kept) low set s r k o h =
    let q = and_parts (nat_le low (leaf_rank x.leaf)) (ordered_from (leaf_rank x.leaf) (leaves kept)) o in
    let p = and_parts (list_all (λ y. not (shows_same (shown_by x) (shown_by y))) kept) (are_apart kept) h in
    by q.1 p.0 p.1 (put_apart change new kept (leaf_rank x.leaf) set s r k.1 q.1 p.1) (is_gone change x) refl (nat_le (leaf_rank x.leaf) (leaf_rank new.leaf)) refl
  where
    told : (ys : List Kept) → list_all (λ y. not (is_gone change y)) ys ≡ true → list_all (λ y. not (shows_same (shown_by new) (shown_by y))) ys ≡ true
    told ys t = subst (λ z. list_all (λ y. not (shows_same z (shown_by y))) ys ≡ true) (sym s) t

    fresh : is_gone change x ≡ false → not (shows_same (shown_by x) (shown_by new)) ≡ true
    fresh g = subst (λ z. not (shows_same (shown_by x) z) ≡ true) (sym s) (test (shows_same (shown_by x) (Some change)) refl)
      where
        test : (b : Bool) → shows_same (shown_by x) (Some change) ≡ b → not b ≡ true
        test true e = absurd (false≢true (sym g ∙ turned change (shown_by x) set (sets x (shown_by x) k.0) e))
        test false e = refl

    by : ordered_from (leaf_rank x.leaf) (leaves kept) ≡ true → list_all (λ y. not (shows_same (shown_by x) (shown_by y))) kept ≡ true → are_apart kept ≡ true → are_apart (put_leaf (is_gone change) new kept) ≡ true
        → (b : Bool) → is_gone change x ≡ b → (l : Bool) → nat_le (leaf_rank x.leaf) (leaf_rank new.leaf) ≡ l
        → are_apart (cond b (new ∷ kept) (cond l (x ∷ put_leaf (is_gone change) new kept) (new ∷ x ∷ kept))) ≡ true
    by rest here more put true g l t = and_from (list_all (λ y. not (shows_same (shown_by new) (shown_by y))) kept) (are_apart kept) (told kept (none_after change (shown_by x) kept set g here)) more
    by rest here more put false g true t =
        and_from (list_all (λ y. not (shows_same (shown_by x) (shown_by y))) (put_leaf (is_gone change) new kept)) (are_apart (put_leaf (is_gone change) new kept))
        (all_put (λ y. not (shows_same (shown_by x) (shown_by y))) (is_gone change) new kept (fresh g) here) put
    by rest here more put false g false t =
        let gt = leb-false (leaf_rank x.leaf) (leaf_rank new.leaf) t in
        let none = none_above change kept (leaf_rank x.leaf) set (omega (arith, gt, r)) k.1 (ordered_all (leaf_rank x.leaf) (leaf_rank x.leaf) kept (omega arith) rest) in
        let first : not (is_gone change x) ≡ true = rw g refl in
        and_from (list_all (λ y. not (shows_same (shown_by new) (shown_by y))) (x ∷ kept)) (are_apart (x ∷ kept))
        (told (x ∷ kept) (and_from (not (is_gone change x)) (list_all (λ y. not (is_gone change y)) kept) first none))
        (and_from (list_all (λ y. not (shows_same (shown_by x) (shown_by y))) kept) (are_apart kept) here more)

pub put_map : (change : Change) (new : Kept) (kept : List Kept) → is_set change ≡ true → shown_by new ≡ Some change → HasKeyOf new.leaf (Some change) → IsLeafMap kept → IsLeafMap (put_leaf (is_gone change) new kept)
put_map change new kept set s key is =
    let rank = rank_is new.leaf (Some change) key in
    record {
      keyed = put_keyed (is_gone change) new kept (subst (HasKeyOf new.leaf) (sym s) key) is.keyed;
      ordered = put_ordered change new kept 0 set rank is.keyed (omega arith) is.ordered;
      apart = put_apart change new kept 0 set s rank is.keyed is.ordered is.apart;
    }
