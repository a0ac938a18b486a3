-- A commit that starts takes empty LEBs, and its index is to stand in these and in those of the committed one.
use Rattle.std.proofs.Common.{◌≡◌, ◌⊎◌, ◌<◌, ◌≤◌, ◌+◌, ◌-◌, ◌*◌, ◌/◌, ◌∙◌, ℕ, zero, suc, arith, Bool, true, false, cond, not, List, [], ◌∷◌, length, map, refl, sym, ap, subst, leb-true, leb-false, Option, Some, None, inl, inr}
use Rattle.std.specs.Prelude.{◌==◌, ◌&&◌, ◌||◌, get_or, nat_le}
use Rattle.std.specs.List.{list_all}
use Rattle.std.specs.Option.{option_map_or}
use Rattle.std.proofs.Math.Nat.{div-mul-le_self, mod-lt}
use Rattle.std.proofs.lemmas.Bool.{and_parts, and_from, eqb-true, eq-eqb, false≢true}
use Rattle.std.proofs.lemmas.Nat.{div-add-mod', mul-le}
use Rattle.ubifs_base.specs.declared.raw_geometry.RawGeometry.{RawGeometry}
use Rattle.ubifs_base.specs.Geometry.{index_nodes_per_leb}
use Rattle.media_lpt.specs.declared.leb_kind.LebKind.{LebKind}
use Rattle.media_lpt.specs.declared.leb_kind.LebKind.TheVariants as kind
use Rattle.index_tree.specs.Shape.{node_count, Shape}
use Rattle.fs_model.specs.Cover.{index_lebs}
use Rattle.store_model.specs.Events.{all_places, clean_places, dirty_count, open_buds, start}
use Rattle.store_model.specs.Invariant.{AreRolesApart, AreAtBuds, IsTaking}
use Rattle.store_model.specs.Lebs.{has_role, is_among, is_role, space_of}
use Rattle.store_model.specs.Legal.{CanStart, KeepPlaces, StandsBelow}
use Rattle.store_model.specs.Store.{At, Bud, IndexNodePlace, Store}
use Rattle.store_model.proofs.LebPuts.{last_passes}
use Rattle.store_model.proofs.LebRows.{Row, all_weaker, has_row, role_row, rows, to_rows}
use Rattle.store_model.proofs.LebStarts.{take_keeps, take_row, take_rows}
use Rattle.store_model.proofs.LebTaking.{Keeps, of_rows}
use Rattle.store_model.proofs.RecoveryCopies.{either_of}
use Rattle.store_model.proofs.RecoveryOrder.{or_left, or_right}
use Rattle.store_model.specs.WrittenNodes.{rows_of}

-- ---- LEBs that are taken
among_more : (k n : ℕ) (numbers : List ℕ) → is_among numbers n ≡ true → is_among (k ∷ numbers) n ≡ true
among_more k n numbers h = or_right (k == n) (is_among numbers n) h

all_among : (all numbers : List ℕ) → ((n : ℕ) → is_among numbers n ≡ true → is_among all n ≡ true) → list_all (is_among all) numbers ≡ true
all_among all [] more = refl
all_among all (n ∷ numbers) more =
    and_from (is_among all n) (list_all (is_among all) numbers) (more n (or_left (n == n) (is_among numbers n) (eq-eqb n n refl))) (all_among all numbers (λ k h. more k (among_more n k numbers h)))

taken_row : (taken : List ℕ) (n : ℕ) (rs : List Row) → is_among taken n ≡ true → has_row kind.Free rs n ≡ true → has_row kind.Taken (map (take_row taken) rs) n ≡ true
taken_row taken n [] i h = absurd (false≢true h)
taken_row taken n (r ∷ rs) i h = by (taken_row taken n rs i) (either_of ((r.0 == n) && is_role kind.Free r.1) (has_row kind.Free rs n) h)
  where
    first : (r.0 == n) ≡ true → (b : Bool) → is_among taken r.0 ≡ b → (((cond {A = Row} b (r.0, kind.Taken) r).0 == n) && is_role kind.Taken (cond {A = Row} b (r.0, kind.Taken) r).1) ≡ true
    first here true e = and_from (r.0 == n) true here refl
    first here false e = absurd (false≢true (sym e ∙ subst (λ (k : ℕ). is_among taken k ≡ true) (sym (eqb-true r.0 n here)) i))

    by : (has_row kind.Free rs n ≡ true → has_row kind.Taken (map (take_row taken) rs) n ≡ true) → (((r.0 == n) && is_role kind.Free r.1) ≡ true) ⊎ (has_row kind.Free rs n ≡ true) → has_row kind.Taken (map (take_row taken) (r ∷ rs)) n ≡ true
    by rest (inl e) =
        or_left (((take_row taken r).0 == n) && is_role kind.Taken (take_row taken r).1) (has_row kind.Taken (map (take_row taken) rs) n) (first (and_parts (r.0 == n) (is_role kind.Free r.1) e).0 (is_among taken r.0) refl)
    by rest (inr e) = or_right (((take_row taken r).0 == n) && is_role kind.Taken (take_row taken r).1) (has_row kind.Taken (map (take_row taken) rs) n) (rest e)

both_hold : (p q : ℕ → Bool) (test : ℕ → Bool) → ((n : ℕ) → p n ≡ true → q n ≡ true → test n ≡ true) → (numbers : List ℕ) → list_all p numbers ≡ true → list_all q numbers ≡ true → list_all test numbers ≡ true
both_hold p q test more [] h g = refl
both_hold p q test more (n ∷ numbers) h g =
    let a = and_parts (p n) (list_all p numbers) h in
    let b = and_parts (q n) (list_all q numbers) g in
    and_from (test n) (list_all test numbers) (more n a.0 b.0) (both_hold p q test more numbers a.1 b.1)

-- ---- places in them
among_get : (taken : List ℕ) (i : ℕ) → i < length taken → is_among taken (get_or taken i 0) ≡ true
among_get [] i low = absurd (omega (arith, low))
among_get (n ∷ taken) zero low = or_left (n == n) (is_among taken n) (eq-eqb n n refl)
among_get (n ∷ taken) (suc i) low = among_more n (get_or taken i 0) taken (among_get taken i (omega (arith, low)))

place_in : (n most per : ℕ) → 0 < per → n < most → n / per < (most + per - 1) / per
place_in n most per some low = by (nat_le ((most + per - 1) / per) (n / per)) refl
  where
    by : (b : Bool) → nat_le ((most + per - 1) / per) (n / per) ≡ b → n / per < (most + per - 1) / per
    by true e =
        let less : (most + per - 1) / per * per ≤ n / per * per = mul-le ((most + per - 1) / per) per (n / per) per (leb-true ((most + per - 1) / per) (n / per) e) (omega arith) in
        let below = div-mul-le_self n per in
        let whole = div-add-mod' (most + per - 1) per in
        let rest = mod-lt (most + per - 1) {m = per} some in
        absurd (omega (arith, less, below, whole, rest, low, some))
    by false e = let above = leb-false ((most + per - 1) / per) (n / per) e in omega (arith, above)

pub places_taken : (geo : RawGeometry) (taken : List ℕ) (test : ℕ → Bool) (most n : ℕ) (places : List (Option IndexNodePlace)) → 0 < index_nodes_per_leb geo → length taken ≡ index_lebs geo most → n + dirty_count places ≤ most
    → list_all (λ o. option_map_or (λ place. test place.lnum) o true) places ≡ true → list_all (λ place. test place.lnum || is_among taken place.lnum) (all_places geo taken n places) ≡ true
places_taken geo taken test most n [] some count few h = refl
places_taken geo taken test most n (None ∷ places) some count few h =
    let here = place_in n most (index_nodes_per_leb geo) some (omega (arith, few)) in
    let at : ℕ = get_or taken (n / index_nodes_per_leb geo) 0 in
    and_from (test at || is_among taken at) (list_all (λ place. test place.lnum || is_among taken place.lnum) (all_places geo taken (n + 1) places))
    (or_right (test at) (is_among taken at) (among_get taken (n / index_nodes_per_leb geo) (subst (λ (z : ℕ). n / index_nodes_per_leb geo < z) (sym count) here)))
    (places_taken geo taken test most (n + 1) places some count (omega (arith, few)) h)
places_taken geo taken test most n (Some place ∷ places) some count few h =
    let p = and_parts (test place.lnum) (list_all (λ o. option_map_or (λ place. test place.lnum) o true) places) h in
    and_from (test place.lnum || is_among taken place.lnum) (list_all (λ place. test place.lnum || is_among taken place.lnum) (all_places geo taken n places))
    (or_left (test place.lnum) (is_among taken place.lnum) p.0) (places_taken geo taken test most n places some count few p.1)

pub all_dirty : (places : List (Option IndexNodePlace)) → dirty_count (map (λ place. None) places) ≡ length places
all_dirty [] = refl
all_dirty (place ∷ places) = ap (λ n. suc n) (all_dirty places)

pub none_placed : (test : ℕ → Bool) (places : List (Option IndexNodePlace)) → list_all (λ o. option_map_or (λ (place : IndexNodePlace). test place.lnum) o true) (map (λ place. None) places) ≡ true
none_placed test [] = refl
none_placed test (place ∷ places) = none_placed test places

-- ---- heads
ends_pass : (test : ℕ → Bool) (buds : List Bud) (k j : ℕ) (ends : List (Option At)) → list_all (λ bud. test bud.lnum) buds ≡ true → AreAtBuds buds j ends → list_all (λ bud. test bud.lnum) (open_buds k ends) ≡ true
ends_pass test buds k j [] h are = refl
ends_pass test buds k j (None ∷ ends) h are = ends_pass test buds (suc k) (j + 1) ends h are
ends_pass test buds k j (Some at ∷ ends) h are =
    and_from (test at.lnum) (list_all (λ bud. test bud.lnum) (open_buds (suc k) ends)) (last_passes test j at.lnum buds h are.0) (ends_pass test buds (suc k) (j + 1) ends h are.1)

pub start_taking : (m : Store) (taken : List ℕ) → 0 < index_nodes_per_leb m.geo → CanStart m taken → AreRolesApart m → length m.index.places ≡ node_count m.index.shape
    → list_all (λ o. option_map_or (λ place. has_role kind.Index m.lebs place.lnum) o true) m.index.places ≡ true → IsTaking (start taken m) (start taken m).next
start_taking m taken some can a count there = (
  both_hold (has_row kind.Free rs) (is_among taken) (has_role kind.Taken k.lebs) (λ n h i. role_row kind.Taken k.lebs n ∙ ap (λ (z : List Row). has_row kind.Taken z n) (take_rows taken m.lebs) ∙ taken_row taken n rs i h) taken free
      (all_among taken taken (λ n h. h)),
  all_weaker (λ (place : IndexNodePlace). has_role kind.Index m.lebs place.lnum || is_among taken place.lnum) (λ place. has_role kind.Index k.lebs place.lnum || is_among taken place.lnum)
      (λ place h. of place.lnum (either_of (has_role kind.Index m.lebs place.lnum) (is_among taken place.lnum) h)) (all_places m.geo taken 0 (clean_places m)) (places (nat_le ((space_of m).index + index_lebs m.geo (dirty_count m.index.places)) (2 * index_lebs m.geo (space_of m).weight)) can.count),
  omega arith,
  all_weaker (λ (bud : Bud). has_role kind.Bud m.lebs bud.lnum) (λ bud. has_role kind.Bud k.lebs bud.lnum) (λ bud h. kept kind.Bud refl bud.lnum h) (open_buds 0 m.ends)
      (ends_pass (has_role kind.Bud m.lebs) m.now.buds 0 0 m.ends a.buds a.ends),
  λ done. absurd (false≢true done),
  can.distinct,
)
  where
    k : Store
    k = start taken m

    rs : List Row
    rs = rows m.lebs

    free : list_all (has_row kind.Free rs) taken ≡ true
    free = all_weaker (has_role kind.Free m.lebs) (has_row kind.Free rs) (λ n h. sym (role_row kind.Free m.lebs n) ∙ h) taken can.empty

    kept : (role : LebKind) → is_role kind.Free role ≡ false → Keeps role m k
    kept role away = of_rows role m k (take_row taken) (take_rows taken m.lebs) (λ n h. take_keeps role taken n rs (to_rows m a).numbers free away h)

    of : (n : ℕ) → (has_role kind.Index m.lebs n ≡ true) ⊎ (is_among taken n ≡ true) → (has_role kind.Index k.lebs n || is_among taken n) ≡ true
    of n (inl e) = or_left (has_role kind.Index k.lebs n) (is_among taken n) (kept kind.Index refl n e)
    of n (inr e) = or_right (has_role kind.Index k.lebs n) (is_among taken n) e

    places : (b : Bool) → length taken ≡ cond b (index_lebs m.geo (dirty_count m.index.places)) (index_lebs m.geo (node_count m.index.shape))
        → list_all (λ (place : IndexNodePlace). has_role kind.Index m.lebs place.lnum || is_among taken place.lnum) (all_places m.geo taken 0 (cond (not b) (map (λ place. None) m.index.places) m.index.places)) ≡ true
    places true e = places_taken m.geo taken (has_role kind.Index m.lebs) (dirty_count m.index.places) 0 m.index.places some e (omega arith) there
    places false e =
        places_taken m.geo taken (has_role kind.Index m.lebs) (node_count m.index.shape) 0 (map (λ place. None) m.index.places) some e (let all = all_dirty m.index.places in omega (arith, all, count)) (none_placed (has_role kind.Index m.lebs) m.index.places)

-- ---- places of the committed index
-- a node that stands at a place of the committed index stands in one of its LEBs
stands_pass : (test : ℕ → Bool) (row : Shape) (place : IndexNodePlace) (rows : List Shape) (places : List IndexNodePlace) → StandsBelow row place rows (map Some places) → list_all (λ p. test p.lnum) places ≡ true → test place.lnum ≡ true
stands_pass test row place [] places s h = absurd s
stands_pass test row place (first ∷ rows) [] s h = absurd s
stands_pass test row place (first ∷ rows) (p ∷ places) (inl (same, at)) h =
    let is : p ≡ place = cc in
    subst (λ (q : IndexNodePlace). test q.lnum ≡ true) is (and_parts (test p.lnum) (list_all (λ p. test p.lnum) places) h).0
stands_pass test row place (first ∷ rows) (p ∷ places) (inr s) h = stands_pass test row place rows places s (and_parts (test p.lnum) (list_all (λ p. test p.lnum) places) h).1

pub kept_pass : (test : ℕ → Bool) (shape : Shape) (old : List IndexNodePlace) (rows : List Shape) (places : List (Option IndexNodePlace)) → KeepPlaces (record { shape = shape; places = map Some old }) rows places → list_all (λ p. test p.lnum) old ≡ true
    → list_all (λ o. option_map_or (λ (place : IndexNodePlace). test place.lnum) o true) places ≡ true
kept_pass test shape old [] [] k h = refl
kept_pass test shape old [] (at ∷ places) k h = absurd k
kept_pass test shape old (row ∷ rows) [] k h = absurd k
kept_pass test shape old (row ∷ rows) (None ∷ places) k h = kept_pass test shape old rows places k h
kept_pass test shape old (row ∷ rows) (Some place ∷ places) k h =
    and_from (test place.lnum) (list_all (λ o. option_map_or (λ (place : IndexNodePlace). test place.lnum) o true) places) (stands_pass test row place (rows_of shape) old k.0 h) (kept_pass test shape old rows places k.1 h)
