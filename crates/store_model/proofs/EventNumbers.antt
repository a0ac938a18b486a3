-- Each event keeps the numbers.
use Rattle.std.proofs.Common.{◌≡◌, ◌≤◌, ℕ, ◌+◌, ◌-◌, arith, Bool, true, false, cond, not, List, [], ◌∷◌, ◌++◌, length, map, refl, ap, subst, length-append, Option, Some, None}
use Rattle.std.specs.Prelude.{◌==◌, ◌&&◌, nat_le}
use Rattle.std.specs.List.{list_all}
use Rattle.std.specs.Option.{option_map}
use Rattle.std.proofs.lemmas.Bool.{and_from, and_parts, false≢true, le-leb, leb-true}
use Rattle.index_tree.specs.Removal.{same_leaf}
use Rattle.leaf_map.specs.Kept.{Kept, Placed, kept_at}
use Rattle.store_model.specs.Events.{at_its_copy, begin, Copying, end_commit, free_victim, in_next, move, offer, offered, start, write_index}
use Rattle.store_model.specs.Heads.{copies_of, head_counts, groups_of_head, has_bud, less, with_copy}
use Rattle.store_model.specs.Fits.{Faced, faced_now}
use Rattle.store_model.specs.Invariant.{AreNumbered, HasNumbers, OfNext, are_within, faced_later, head_numbers}
use Rattle.store_model.specs.Store.{Bud, Moving, Next, Store}
use Rattle.store_model.proofs.BackingStarts.{no_groups}
use Rattle.store_model.proofs.Numbers.{given_up, kept_still}
use Rattle.store_model.proofs.PutNumbers.{within_more}

-- ---- more numbers were given
view_up : (m k : Store) (f g : Faced) → g.view ≡ f.view → nat_le m.sqnum k.sqnum ≡ true → AreNumbered m f → AreNumbered k g
view_up m k f g same up n = record {
  base = rw same (given_up m.sqnum k.sqnum up (head_numbers f.view.buds 1) n.base);
  data_nodes = rw same (given_up m.sqnum k.sqnum up (head_numbers f.view.buds 2) n.data_nodes);
  apart = rw same n.apart;
  kept = rw same (kept_still m.sqnum k.sqnum up f.view.kept n.kept);
}

up_by : (n k : ℕ) → nat_le n (n + k) ≡ true
up_by n k = le-leb n (n + k) (omega arith)

-- ---- a copy
pub groups_copied : (head : ℕ) (copy : Placed) (buds : List Bud) → groups_of_head head (with_copy copy buds) ≡ groups_of_head head buds
groups_copied head copy [] = refl
groups_copied head copy (bud ∷ buds) = by (groups_copied head copy buds) ((bud.head == 0) && not (has_bud 0 buds)) refl (bud.head == head) refl
  where
    by : groups_of_head head (with_copy copy buds) ≡ groups_of_head head buds → (last : Bool) → ((bud.head == 0) && not (has_bud 0 buds)) ≡ last → (here : Bool) → (bud.head == head) ≡ here
        → groups_of_head head (with_copy copy (bud ∷ buds)) ≡ groups_of_head head (bud ∷ buds)
    by s true l true i = rw (l, i) refl
    by s true l false i = rw (l, i) refl
    by s false l true i = rw (l, i) (ap (λ gs. bud.groups ++ gs) s)
    by s false l false i = rw (l, i) s

copies_long : (copy : Placed) (buds : List Bud) → length (copies_of buds) ≤ length (copies_of (with_copy copy buds))
copies_long copy [] = omega arith
copies_long copy (bud ∷ buds) = by (copies_long copy buds) (has_bud 0 buds) refl (bud.head == 0) refl
  where
    rest : List Placed
    rest = copies_of buds

    longer : length (bud.copies ++ rest) ≤ length ((bud.copies ++ copy ∷ []) ++ rest)
    longer =
        let a = length-append bud.copies rest in
        let b = length-append (bud.copies ++ copy ∷ []) rest in
        let c = length-append bud.copies (copy ∷ []) in
        omega (arith, a, b, c)

    further : length rest ≤ length (copies_of (with_copy copy buds)) → length (bud.copies ++ rest) ≤ length (bud.copies ++ copies_of (with_copy copy buds))
    further s =
        let a = length-append bud.copies rest in
        let b = length-append bud.copies (copies_of (with_copy copy buds)) in
        omega (arith, a, b, s)

    by : length rest ≤ length (copies_of (with_copy copy buds)) → (more : Bool) → has_bud 0 buds ≡ more → (here : Bool) → (bud.head == 0) ≡ here → length (copies_of (bud ∷ buds)) ≤ length (copies_of (with_copy copy (bud ∷ buds)))
    by s true o true i = rw (o, i, i) (further s)
    by s true o false i = rw (o, i, i) s
    by s false o true i = rw (i, o, i) longer
    by s false o false i = rw (o, i, i) s

counts_copied : (copy : Placed) (buds : List Bud) → are_within (head_counts buds) (head_counts (with_copy copy buds)) ≡ true
counts_copied copy buds =
    rw (groups_copied 1 copy buds, groups_copied 2 copy buds)
    (and_from (nat_le (length (copies_of buds)) (length (copies_of (with_copy copy buds)))) (nat_le (length (groups_of_head 1 buds)) (length (groups_of_head 1 buds)) && (nat_le (length (groups_of_head 2 buds)) (length (groups_of_head 2 buds)) && true))
    (le-leb (length (copies_of buds)) (length (copies_of (with_copy copy buds))) (copies_long copy buds))
    (and_from (nat_le (length (groups_of_head 1 buds)) (length (groups_of_head 1 buds))) (nat_le (length (groups_of_head 2 buds)) (length (groups_of_head 2 buds)) && true) (le-leb (length (groups_of_head 1 buds)) (length (groups_of_head 1 buds)) (omega arith))
    (and_from (nat_le (length (groups_of_head 2 buds)) (length (groups_of_head 2 buds))) true (le-leb (length (groups_of_head 2 buds)) (length (groups_of_head 2 buds)) (omega arith)) refl)))

copied_view : (m k : Store) (copy : Placed) (f g : Faced) → k.sqnum ≡ m.sqnum → g.view.buds ≡ with_copy copy f.view.buds → g.view.kept ≡ f.view.kept → AreNumbered m f → AreNumbered k g
copied_view m k copy f g sqnum buds kept n = record {
  base = rw (sqnum, buds, groups_copied 1 copy f.view.buds) n.base;
  data_nodes = rw (sqnum, buds, groups_copied 2 copy f.view.buds) n.data_nodes;
  apart = rw (buds, groups_copied 1 copy f.view.buds, groups_copied 2 copy f.view.buds) n.apart;
  kept = rw (sqnum, kept) n.kept;
}

copied_live : (n : ℕ) (c : Copying) (live : List Kept) → list_all (λ x. nat_le x.sqnum n) live ≡ true → list_all (λ x. nat_le x.sqnum n) (map (at_its_copy c) live) ≡ true
copied_live n c [] h = refl
copied_live n c (x ∷ live) h =
    let p = and_parts (nat_le x.sqnum n) (list_all (λ x. nat_le x.sqnum n) live) h in
    and_from (nat_le (at_its_copy c x).sqnum n) (list_all (λ x. nat_le x.sqnum n) (map (at_its_copy c) live)) (by (same_leaf x.leaf c.leaf.leaf) p.0) (copied_live n c live p.1)
  where
    by : (b : Bool) → nat_le x.sqnum n ≡ true → nat_le (cond b (record x { leaf = (kept_at c.copy).leaf }) x).sqnum n ≡ true
    by true h = h
    by false h = h

copied_next : (m : Store) (c : Copying) (next : Option Next) → OfNext m next (AreNumbered m) → OfNext (move c m) (option_map (in_next (with_copy c.copy) 0) next) (AreNumbered (move c m))
copied_next m c None n = tt
copied_next m c (Some next) n = copied_view m (move c m) c.copy (faced_later m next) (faced_later (move c m) (in_next (with_copy c.copy) 0 next)) refl refl refl n

pub moved_numbers : (m : Store) (c : Copying) → HasNumbers m → HasNumbers (move c m)
moved_numbers m c n = record {
  both = (copied_view m (move c m) c.copy (faced_now m) (faced_now (move c m)) refl refl refl n.both.0, copied_next m c m.next n.both.1);
  live = copied_live m.sqnum c m.live n.live;
  synced = within_more m.synced (head_counts m.now.buds) (head_counts (with_copy c.copy m.now.buds)) n.synced (counts_copied c.copy m.now.buds);
}

-- ---- others
next_up : (m k : Store) (next : Option Next) → nat_le m.sqnum k.sqnum ≡ true → OfNext m next (AreNumbered m) → OfNext k next (AreNumbered k)
next_up m k None up n = tt
next_up m k (Some next) up n = view_up m k (faced_later m next) (faced_later k next) refl up n

-- as many numbers, or more, of the same groups
pub same_up : (m k : Store) → nat_le m.sqnum k.sqnum ≡ true → k.live ≡ m.live → k.now ≡ m.now → k.synced ≡ m.synced → OfNext k k.next (AreNumbered k) → HasNumbers m → HasNumbers k
same_up m k up live now synced next n = record {
  both = (view_up m k (faced_now m) (faced_now k) now up n.both.0, next);
  live = rw live (kept_still m.sqnum k.sqnum up m.live n.live);
  synced = rw (synced, now) n.synced;
}

self_up : (n : ℕ) → nat_le n n ≡ true
self_up n = le-leb n n (omega arith)

pub begun_numbers : (m : Store) (victim : ℕ) → HasNumbers m → HasNumbers (begin victim m)
begun_numbers m victim n = same_up m (begin victim m) (self_up m.sqnum) refl refl refl (next_up m (begin victim m) m.next (self_up m.sqnum) n.both.1) n

pub freed_numbers : (m : Store) (moving : Option Moving) → HasNumbers m → HasNumbers (free_victim m moving)
freed_numbers m None n = n
freed_numbers m (Some moving) n =
    let k : Store = free_victim m (Some moving) in
    same_up m k (self_up m.sqnum) refl refl refl (next_up m k m.next (self_up m.sqnum) n.both.1) n

pub started_numbers : (m : Store) (taken : List ℕ) → HasNumbers m → HasNumbers (start taken m)
started_numbers m taken n =
    let k : Store = start taken m in
    let up : nat_le m.sqnum k.sqnum ≡ true = le-leb m.sqnum k.sqnum (omega arith) in
    same_up m k up refl refl refl
    (record { base = rw (no_groups 1 0 m.ends) refl; data_nodes = rw (no_groups 2 0 m.ends) refl; apart = rw (no_groups 1 0 m.ends) refl; kept = kept_still m.sqnum k.sqnum up m.live n.live }) n

pub written_numbers : (m : Store) (next : Option Next) → m.next ≡ next → HasNumbers m → HasNumbers (write_index m next)
written_numbers m None e n = n
written_numbers m (Some next) e n =
    let k : Store = write_index m (Some next) in
    let up : nat_le m.sqnum k.sqnum ≡ true = le-leb m.sqnum k.sqnum (omega arith) in
    let old = subst (λ (o : Option Next). OfNext m o (AreNumbered m)) e n.both.1 in
    same_up m k up refl refl refl (view_up m k (faced_later m next) (faced_later k (record next { written = next.written + 1 })) refl up old) n

offered_next : (m k : Store) (next : Option Next) → nat_le m.sqnum k.sqnum ≡ true → OfNext m next (AreNumbered m) → OfNext k (option_map offered next) (AreNumbered k)
offered_next m k None up n = tt
offered_next m k (Some next) up n = view_up m k (faced_later m next) (faced_later k (offered next)) refl up n

pub offered_numbers : (m : Store) → HasNumbers m → HasNumbers (offer m)
offered_numbers m n =
    let up : nat_le m.sqnum (offer m).sqnum ≡ true = le-leb m.sqnum (offer m).sqnum (omega arith) in
    same_up m (offer m) up refl refl refl (offered_next m (offer m) m.next up n.both.1) n

-- of each head no more is synced since than came
one_since : (a all last : ℕ) → nat_le a all ≡ true → nat_le (a - (all - last)) last ≡ true
one_since a all last h = let low = leb-true a all h in le-leb (a - (all - last)) last (omega (arith, low))

all_since : (synced : List ℕ) (a b c x y z : ℕ) → are_within synced (a ∷ b ∷ c ∷ []) ≡ true → are_within (less synced ((a - x) ∷ (b - y) ∷ (c - z) ∷ [])) (x ∷ y ∷ z ∷ []) ≡ true
all_since [] a b c x y z h = refl
all_since (i ∷ []) a b c x y z h = and_from (nat_le (i - (a - x)) x) true (one_since i a x (and_parts (nat_le i a) true h).0) refl
all_since (i ∷ j ∷ []) a b c x y z h =
    let p = and_parts (nat_le i a) (nat_le j b && true) h in
    let q = and_parts (nat_le j b) true p.1 in
    and_from (nat_le (i - (a - x)) x) (nat_le (j - (b - y)) y && true) (one_since i a x p.0) (and_from (nat_le (j - (b - y)) y) true (one_since j b y q.0) refl)
all_since (i ∷ j ∷ k ∷ []) a b c x y z h =
    let p = and_parts (nat_le i a) (nat_le j b && (nat_le k c && true)) h in
    let q = and_parts (nat_le j b) (nat_le k c && true) p.1 in
    let r = and_parts (nat_le k c) true q.1 in
    and_from (nat_le (i - (a - x)) x) (nat_le (j - (b - y)) y && (nat_le (k - (c - z)) z && true)) (one_since i a x p.0)
    (and_from (nat_le (j - (b - y)) y) (nat_le (k - (c - z)) z && true) (one_since j b y q.0) (and_from (nat_le (k - (c - z)) z) true (one_since k c z r.0) refl))
all_since (i ∷ j ∷ k ∷ l ∷ more) a b c x y z h =
    let p = and_parts (nat_le i a) (nat_le j b && (nat_le k c && false)) h in
    let q = and_parts (nat_le j b) (nat_le k c && false) p.1 in
    let r = and_parts (nat_le k c) false q.1 in
    absurd (false≢true r.1)

pub ended_numbers : (m : Store) (next : Option Next) → m.next ≡ next → HasNumbers m → HasNumbers (end_commit m next)
ended_numbers m None e n = n
ended_numbers m (Some next) e n =
    let k : Store = end_commit m (Some next) in
    let up = up_by m.sqnum 1 in
    let old = subst (λ (o : Option Next). OfNext m o (AreNumbered m)) e n.both.1 in
    record {
      both = (view_up m k (faced_later m next) (faced_now k) refl up old, tt);
      live = kept_still m.sqnum k.sqnum up m.live n.live;
      synced = all_since m.synced (length (copies_of m.now.buds)) (length (groups_of_head 1 m.now.buds)) (length (groups_of_head 2 m.now.buds)) (length (copies_of next.view.buds)) (length (groups_of_head 1 next.view.buds)) (length (groups_of_head 2 next.view.buds)) n.synced;
    }
