-- What a sync and an inode that is dropped make of LEBs: leaf LEBs without a leaf are empty, and all others are for what they were for.
use Rattle.std.proofs.Common.{◌≡◌, ◌⊎◌, ℕ, ◌+◌, Bool, true, false, cond, not, List, [], ◌∷◌, map, refl, sym, ap, subst, ◌∙◌, inl, inr, Option, Some, None}
use Rattle.std.specs.Prelude.{◌==◌, ◌&&◌, ◌||◌, fold}
use Rattle.std.specs.List.{list_all, list_any}
use Rattle.std.specs.Option.{option_map}
use Rattle.std.proofs.lemmas.Bool.{and_parts, and_from, eqb-true, eq-eqb, false≢true}
use Rattle.media_lpt.specs.declared.leb_kind.LebKind.TheVariants as kind
use Rattle.ubifs_base.specs.declared.raw_geometry.RawGeometry.{RawGeometry}
use Rattle.leaf_map.specs.Kept.{Kept}
use Rattle.store_model.specs.Events.{filled_up, last_gap, padded_head, sync, synced_orphan}
use Rattle.store_model.specs.Heads.{head_counts}
use Rattle.store_model.specs.Invariant.{AreRolesApart, AreAtBuds, is_used, lebs_taken}
use Rattle.store_model.specs.Legal.{are_distinct}
use Rattle.store_model.specs.Lebs.{freed, has_leaf, is_among, is_role, is_victim_of, stands_in, tidied_store}
use Rattle.store_model.specs.Store.{At, Bud, Leb, Moving, IndexNodePlace, Store}
use Rattle.store_model.proofs.LebLeaves.{or_none}
use Rattle.store_model.proofs.LebPuts.{text_rows}
use Rattle.store_model.proofs.LebRows.{AreRows, Row, all_weaker, from_rows, has_row, not_more, numbers_kept, numbers_of, row_kept, rows, to_rows, victim_row}
use Rattle.store_model.proofs.RecoveryCopies.{either_of}
use Rattle.store_model.proofs.RecoveryOrder.{or_left, or_right}
use Rattle.store_model.proofs.Sorting.{or_false}

-- ---- rows of LEBs that are freed
abbrev pub freed_row : Store → Row → Row
freed_row m r = cond (is_role kind.Leaf r.1 && not (has_leaf m r.0) && not (is_victim_of m.moving r.0)) (r.0, kind.Free) r

pub freed_rows : (m : Store) (lebs : List Leb) → rows (map (freed m) lebs) ≡ map (freed_row m) (rows lebs)
freed_rows m [] = refl
freed_rows m (leb ∷ lebs) = by (is_role kind.Leaf leb.role && not (has_leaf m leb.lnum) && not (is_victim_of m.moving leb.lnum)) (freed_rows m lebs)
  where
    by : (b : Bool) → rows (map (freed m) lebs) ≡ map (freed_row m) (rows lebs)
        → ((cond b (record leb { role = kind.Free; text = [] }) leb).lnum, (cond b (record leb { role = kind.Free; text = [] }) leb).role) ∷ rows (map (freed m) lebs)
        ≡ cond b (leb.lnum, kind.Free) (leb.lnum, leb.role) ∷ map (freed_row m) (rows lebs)
    by true rest = ap (λ (z : List Row). (leb.lnum, kind.Free) ∷ z) rest
    by false rest = ap (λ (z : List Row). (leb.lnum, leb.role) ∷ z) rest

pub freed_number : (m : Store) (r : Row) → (freed_row m r).0 ≡ r.0
freed_number m r = by (is_role kind.Leaf r.1 && not (has_leaf m r.0) && not (is_victim_of m.moving r.0))
  where
    by : (b : Bool) → (cond b (r.0, kind.Free) r).0 ≡ r.0
    by true = refl
    by false = refl

pub keeps_bud : (m : Store) (r : Row) → is_role kind.Bud r.1 ≡ true → is_role kind.Bud (freed_row m r).1 ≡ true
keeps_bud m (n, kind.Bud) h = refl
keeps_bud m (n, role) h = absurd (false≢true h)

pub keeps_index : (m : Store) (r : Row) → is_role kind.Index r.1 ≡ true → is_role kind.Index (freed_row m r).1 ≡ true
keeps_index m (n, kind.Index) h = refl
keeps_index m (n, role) h = absurd (false≢true h)

pub keeps_taken : (m : Store) (r : Row) → is_role kind.Taken r.1 ≡ true → is_role kind.Taken (freed_row m r).1 ≡ true
keeps_taken m (n, kind.Taken) h = refl
keeps_taken m (n, role) h = absurd (false≢true h)

-- a leaf LEB with a leaf isn't freed, and no victim is
abbrev is_freed : Store → ℕ → Bool
is_freed m lnum = not (has_leaf m lnum) && not (is_victim_of m.moving lnum)

leaf_stays : (m : Store) (rs : List Row) (lnum : ℕ) → is_freed m lnum ≡ false → has_row kind.Leaf rs lnum ≡ true → has_row kind.Leaf (map (freed_row m) rs) lnum ≡ true
leaf_stays m [] lnum stays h = h
leaf_stays m (r ∷ rs) lnum stays h = by (leaf_stays m rs lnum stays) (either_of ((r.0 == lnum) && is_role kind.Leaf r.1) (has_row kind.Leaf rs lnum) h)
  where
    Rest : Bool
    Rest = has_row kind.Leaf (map (freed_row m) rs) lnum

    gate : (x a v : Bool) → (not a && not v) ≡ false → (x && not a && not v) ≡ false
    gate true a v e = e
    gate false a v e = refl

    same : (r.0 == lnum) ≡ true → is_role kind.Leaf r.1 ≡ true → (((freed_row m r).0 == lnum) && is_role kind.Leaf (freed_row m r).1) ≡ true
    same n role =
        ap (λ (b : Bool). ((cond b (r.0, kind.Free) r).0 == lnum) && is_role kind.Leaf (cond b (r.0, kind.Free) r).1)
        (gate (is_role kind.Leaf r.1) (has_leaf m r.0) (is_victim_of m.moving r.0) (subst (λ (k : ℕ). is_freed m k ≡ false) (sym (eqb-true r.0 lnum n)) stays))
        ∙ and_from (r.0 == lnum) (is_role kind.Leaf r.1) n role

    by : (has_row kind.Leaf rs lnum ≡ true → has_row kind.Leaf (map (freed_row m) rs) lnum ≡ true) → (((r.0 == lnum) && is_role kind.Leaf r.1) ≡ true) ⊎ (has_row kind.Leaf rs lnum ≡ true) → has_row kind.Leaf (map (freed_row m) (r ∷ rs)) lnum ≡ true
    by rest (inl e) =
        let p = and_parts (r.0 == lnum) (is_role kind.Leaf r.1) e in
        or_left (((freed_row m r).0 == lnum) && is_role kind.Leaf (freed_row m r).1) Rest (same p.0 p.1)
    by rest (inr e) = or_right (((freed_row m r).0 == lnum) && is_role kind.Leaf (freed_row m r).1) Rest (rest e)

with_leaf : (a v : Bool) → a ≡ true → (not a && not v) ≡ false
with_leaf true v e = refl
with_leaf false v e = absurd (false≢true e)

as_victim : (a v : Bool) → v ≡ true → (not a && not v) ≡ false
as_victim true v e = refl
as_victim false true e = refl
as_victim false false e = absurd (false≢true e)

victim_stays : (m : Store) (rs : List Row) (moving : Option Moving) → m.moving ≡ moving → victim_row rs moving ≡ true → victim_row (map (freed_row m) rs) moving ≡ true
victim_stays m rs None e h = refl
victim_stays m rs (Some moving) e h =
    let is : is_victim_of m.moving moving.victim ≡ true = ap (λ (o : Option Moving). is_victim_of o moving.victim) e ∙ eq-eqb moving.victim moving.victim refl in
    leaf_stays m rs moving.victim (as_victim (has_leaf m moving.victim) (is_victim_of m.moving moving.victim) is) h

-- each live leaf's LEB has a leaf
one_more : (x : Kept) (all xs : List Kept) → list_all (λ y. list_any (stands_in y.leaf.lnum) all) xs ≡ true → list_all (λ y. list_any (stands_in y.leaf.lnum) (x ∷ all)) xs ≡ true
one_more x all xs h = all_weaker (λ y. list_any (stands_in y.leaf.lnum) all) (λ y. list_any (stands_in y.leaf.lnum) (x ∷ all)) (λ y e. or_right (x.leaf.lnum == y.leaf.lnum) (list_any (stands_in y.leaf.lnum) all) e) xs h

pub all_stand : (xs : List Kept) → list_all (λ y. list_any (stands_in y.leaf.lnum) xs) xs ≡ true
all_stand [] = refl
all_stand (x ∷ xs) =
    and_from (list_any (stands_in x.leaf.lnum) (x ∷ xs)) (list_all (λ y. list_any (stands_in y.leaf.lnum) (x ∷ xs)) xs)
    (or_left (x.leaf.lnum == x.leaf.lnum) (list_any (stands_in x.leaf.lnum) xs) (eq-eqb x.leaf.lnum x.leaf.lnum refl)) (one_more x xs xs (all_stand xs))

pub both_all : {X : Type 0} (p q r : X → Bool) → ((x : X) → p x ≡ true → q x ≡ true → r x ≡ true) → (xs : List X) → list_all p xs ≡ true → list_all q xs ≡ true → list_all r xs ≡ true
both_all p q r both [] h g = refl
both_all p q r both (x ∷ xs) h g =
    let a = and_parts (p x) (list_all p xs) h in
    let b = and_parts (q x) (list_all q xs) g in
    and_from (r x) (list_all r xs) (both x a.0 b.0) (both_all p q r both xs a.1 b.1)

-- ---- a store with fewer leaves, tidied
pub record HasFewer (m k : Store) : Type 0 where
  pub lebs : rows k.lebs ≡ rows m.lebs
  pub none : (lnum : ℕ) → has_leaf m lnum ≡ false → has_leaf k lnum ≡ false
  pub live : (test : ℕ → Bool) → list_all (λ x. test x.leaf.lnum) m.live ≡ true → list_all (λ x. test x.leaf.lnum) k.live ≡ true
  pub buds : k.now.buds ≡ m.now.buds
  pub places : k.now.places ≡ m.now.places
  pub next : lebs_taken k.next ≡ lebs_taken m.next
  pub moving : k.moving ≡ m.moving

-- rows that are as an invariant wants them, but for leaf LEBs without a leaf
pub record AreNearly (m : Store) (rs : List Row) : Type 0 where
  pub numbers : are_distinct (numbers_of rs) ≡ true
  pub used : list_all (λ r. is_used m r.0 r.1 || is_role kind.Leaf r.1) rs ≡ true
  pub buds : list_all (λ bud. has_row kind.Bud rs bud.lnum) m.now.buds ≡ true
  pub index : list_all (λ place. has_row kind.Index rs place.lnum) m.now.places ≡ true
  pub leaves : list_all (λ x. has_row kind.Leaf rs x.leaf.lnum || has_row kind.Bud rs x.leaf.lnum) m.live ≡ true
  pub victim : victim_row rs m.moving ≡ true

or_nothing : (a : Bool) → (a || false) ≡ true → a ≡ true
or_nothing true h = h
or_nothing false h = h

freed_use : (k : Store) (r : Row) → (is_used k r.0 r.1 || is_role kind.Leaf r.1) ≡ true → is_used (tidied_store k) (freed_row k r).0 (freed_row k r).1 ≡ true
freed_use k (n, kind.Free) h = or_nothing (not (has_leaf k n)) h
freed_use k (n, kind.Index) h = or_nothing (not (has_leaf k n)) h
freed_use k (n, kind.Bud) h = or_nothing (list_any (λ bud. bud.lnum == n) k.now.buds) h
freed_use k (n, kind.Taken) h = or_nothing (not (has_leaf k n) && is_among (lebs_taken k.next) n) h
freed_use k (n, kind.Leaf) h = by (has_leaf k n) (is_victim_of k.moving n) refl refl
  where
    by : (a v : Bool) → has_leaf k n ≡ a → is_victim_of k.moving n ≡ v
        → is_used (tidied_store k) (cond {A = Row} (not a && not v) (n, kind.Free) (n, kind.Leaf)).0 (cond {A = Row} (not a && not v) (n, kind.Free) (n, kind.Leaf)).1 ≡ true
    by true v e g = or_left (has_leaf k n) (is_victim_of k.moving n) e
    by false true e g = or_right (has_leaf k n) (is_victim_of k.moving n) g
    by false false e g = ap not e

all_freed : (k : Store) (rs : List Row) → list_all (λ r. is_used k r.0 r.1 || is_role kind.Leaf r.1) rs ≡ true → list_all (λ r. is_used (tidied_store k) r.0 r.1) (map (freed_row k) rs) ≡ true
all_freed k [] h = refl
all_freed k (r ∷ rs) h =
    let p = and_parts (is_used k r.0 r.1 || is_role kind.Leaf r.1) (list_all (λ r. is_used k r.0 r.1 || is_role kind.Leaf r.1) rs) h in
    and_from (is_used (tidied_store k) (freed_row k r).0 (freed_row k r).1) (list_all (λ r. is_used (tidied_store k) r.0 r.1) (map (freed_row k) rs)) (freed_use k r p.0) (all_freed k rs p.1)

-- leaf LEBs without a leaf are empty then
pub tidied_from : (k : Store) → AreNearly k (rows k.lebs) → AreAtBuds k.now.buds 0 k.ends → AreRolesApart (tidied_store k)
tidied_from k r ends = from_rows (tidied_store k) (subst (AreRows (tidied_store k)) (sym (freed_rows k k.lebs)) (record {
  numbers = ap are_distinct (numbers_kept (freed_row k) (freed_number k) rs) ∙ r.numbers;
  used = all_freed k rs r.used;
  buds = all_weaker (λ (bud : Bud). has_row kind.Bud rs bud.lnum) (λ bud. has_row kind.Bud new bud.lnum) (λ bud h. row_kept kind.Bud (freed_row k) (freed_number k) (keeps_bud k) rs bud.lnum h) k.now.buds r.buds;
  index = all_weaker (λ (place : IndexNodePlace). has_row kind.Index rs place.lnum) (λ place. has_row kind.Index new place.lnum) (λ place h. row_kept kind.Index (freed_row k) (freed_number k) (keeps_index k) rs place.lnum h) k.now.places r.index;
  leaves = both_all (λ (x : Kept). has_row kind.Leaf rs x.leaf.lnum || has_row kind.Bud rs x.leaf.lnum) (λ x. list_any (stands_in x.leaf.lnum) k.live) (λ x. has_row kind.Leaf new x.leaf.lnum || has_row kind.Bud new x.leaf.lnum)
      (λ x h g. leaf x h g) k.live r.leaves (all_stand k.live);
  victim = victim_stays k rs k.moving refl r.victim;
})) ends
  where
    rs : List Row
    rs = rows k.lebs

    new : List Row
    new = map (freed_row k) rs

    leaf : (x : Kept) → (has_row kind.Leaf rs x.leaf.lnum || has_row kind.Bud rs x.leaf.lnum) ≡ true → list_any (stands_in x.leaf.lnum) k.live ≡ true
        → (has_row kind.Leaf new x.leaf.lnum || has_row kind.Bud new x.leaf.lnum) ≡ true
    leaf x h g = by (either_of (has_row kind.Leaf rs x.leaf.lnum) (has_row kind.Bud rs x.leaf.lnum) h)
      where
        by : (has_row kind.Leaf rs x.leaf.lnum ≡ true) ⊎ (has_row kind.Bud rs x.leaf.lnum ≡ true) → (has_row kind.Leaf new x.leaf.lnum || has_row kind.Bud new x.leaf.lnum) ≡ true
        by (inl e) =
            or_left (has_row kind.Leaf new x.leaf.lnum) (has_row kind.Bud new x.leaf.lnum)
            (leaf_stays k rs x.leaf.lnum (with_leaf (has_leaf k x.leaf.lnum) (is_victim_of k.moving x.leaf.lnum) (or_left (list_any (stands_in x.leaf.lnum) k.live) (list_any (stands_in x.leaf.lnum) k.held) g)) e)
        by (inr e) = or_right (has_row kind.Leaf new x.leaf.lnum) (has_row kind.Bud new x.leaf.lnum) (row_kept kind.Bud (freed_row k) (freed_number k) (keeps_bud k) rs x.leaf.lnum e)

fewer_use : (m k : Store) → HasFewer m k → (r : Row) → is_used m r.0 r.1 ≡ true → (is_used k r.0 r.1 || is_role kind.Leaf r.1) ≡ true
fewer_use m k f (n, kind.Free) h = or_left (not (has_leaf k n)) false (not_more (has_leaf m n) (has_leaf k n) (f.none n) h)
fewer_use m k f (n, kind.Index) h = or_left (not (has_leaf k n)) false (not_more (has_leaf m n) (has_leaf k n) (f.none n) h)
fewer_use m k f (n, kind.Bud) h =
    or_left (list_any (λ bud. bud.lnum == n) k.now.buds) false (subst (λ (buds : List Bud). list_any (λ bud. bud.lnum == n) buds ≡ true) (sym f.buds) h)
fewer_use m k f (n, kind.Taken) h =
    let p = and_parts (not (has_leaf m n)) (is_among (lebs_taken m.next) n) h in
    or_left (not (has_leaf k n) && is_among (lebs_taken k.next) n) false
    (and_from (not (has_leaf k n)) (is_among (lebs_taken k.next) n) (not_more (has_leaf m n) (has_leaf k n) (f.none n) p.0) (ap (λ (taken : List ℕ). is_among taken n) f.next ∙ p.1))
fewer_use m k f (n, kind.Leaf) h = or_right (has_leaf k n || is_victim_of k.moving n) true refl

pub tidied_apart : (m k : Store) → AreRolesApart m → HasFewer m k → AreAtBuds k.now.buds 0 k.ends → AreRolesApart (tidied_store k)
tidied_apart m k a f ends = tidied_from k (subst (AreNearly k) (sym f.lebs) (record {
  numbers = r.numbers;
  used = all_weaker (λ (row : Row). is_used m row.0 row.1) (λ row. is_used k row.0 row.1 || is_role kind.Leaf row.1) (fewer_use m k f) rs r.used;
  buds = subst (λ (buds : List Bud). list_all (λ bud. has_row kind.Bud rs bud.lnum) buds ≡ true) (sym f.buds) r.buds;
  index = subst (λ (places : List IndexNodePlace). list_all (λ place. has_row kind.Index rs place.lnum) places ≡ true) (sym f.places) r.index;
  leaves = f.live (λ n. has_row kind.Leaf rs n || has_row kind.Bud rs n) r.leaves;
  victim = ap (victim_row rs) f.moving ∙ r.victim;
})) ends
  where
    rs : List Row
    rs = rows m.lebs

    r : AreRows m rs
    r = to_rows m a

-- ---- a sync
pub padded_rows : (geo : RawGeometry) (lebs : List Leb) (at : Option At) → rows (padded_head geo lebs at) ≡ rows lebs
padded_rows geo lebs None = refl
padded_rows geo lebs (Some at) = text_rows at.lnum (last_gap geo at) lebs

pub all_padded : (geo : RawGeometry) (lebs : List Leb) (ends : List (Option At)) → rows (fold (padded_head geo) lebs ends) ≡ rows lebs
all_padded geo lebs [] = refl
all_padded geo lebs (at ∷ ends) = all_padded geo (padded_head geo lebs at) ends ∙ padded_rows geo lebs at

pub filled_ends : (geo : RawGeometry) (buds : List Bud) (k : ℕ) (ends : List (Option At)) → AreAtBuds buds k ends → AreAtBuds buds k (map (option_map (filled_up geo)) ends)
filled_ends geo buds k [] are = tt
filled_ends geo buds k (None ∷ ends) are = filled_ends geo buds (k + 1) ends are
filled_ends geo buds k (Some at ∷ ends) are = (are.0, filled_ends geo buds (k + 1) ends are.1)

abbrev pub synced_store : Store → Store
synced_store m = record m {
  lebs = fold (padded_head m.geo) m.lebs m.ends;
  ends = map (option_map (filled_up m.geo)) m.ends;
  synced = head_counts m.now.buds;
  held = [];
  orphans = map synced_orphan m.orphans;
}

pub sync_fewer : (m : Store) → HasFewer m (synced_store m)
sync_fewer m = record {
  lebs = all_padded m.geo m.lebs m.ends;
  none = λ lnum h. or_none (list_any (stands_in lnum) m.live) false (or_false (list_any (stands_in lnum) m.live) (list_any (stands_in lnum) m.held) h).0 refl;
  live = λ test h. h;
  buds = refl;
  places = refl;
  next = refl;
  moving = refl;
}

pub sync_apart : (m : Store) → AreRolesApart m → AreRolesApart (sync m)
sync_apart m a = tidied_apart m (synced_store m) a (sync_fewer m) (filled_ends m.geo m.now.buds 0 m.ends a.ends)
