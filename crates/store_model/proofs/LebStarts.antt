-- What a commit's start makes of LEBs: empty ones are taken.
use Rattle.std.proofs.Common.{◌≡◌, ◌⊎◌, ℕ, Bool, true, false, cond, not, List, [], ◌∷◌, map, refl, sym, ap, subst, ◌∙◌, inl, inr, Option, Some, None}
use Rattle.std.specs.Prelude.{◌==◌, ◌&&◌, ◌||◌}
use Rattle.std.specs.List.{list_all}
use Rattle.std.proofs.lemmas.Bool.{and_parts, and_from, eqb-true, false≢true}
use Rattle.media_lpt.specs.declared.leb_kind.LebKind.{LebKind}
use Rattle.media_lpt.specs.declared.leb_kind.LebKind.TheVariants as kind
use Rattle.leaf_map.specs.Kept.{Kept}
use Rattle.store_model.specs.Events.{start, take_leb}
use Rattle.store_model.specs.Invariant.{AreRolesApart, is_used, lebs_taken}
use Rattle.store_model.specs.Lebs.{has_leaf, has_role, is_among, is_role}
use Rattle.store_model.specs.Legal.{are_distinct, CanStart}
use Rattle.store_model.specs.Store.{Bud, Leb, Moving, Next, IndexNodePlace, Store}
use Rattle.store_model.proofs.LebRows.{AreRows, IsRowIn, Row, all_in, all_weaker, from_rows, has_row, numbers_kept, numbers_of, one_role, role_row, rows, to_rows, used_kept, victim_row}
use Rattle.store_model.proofs.RecoveryCopies.{either_of}
use Rattle.store_model.proofs.RecoveryOrder.{or_left, or_right}

abbrev pub take_row : List ℕ → Row → Row
take_row taken r = cond (is_among taken r.0) (r.0, kind.Taken) r

pub take_rows : (taken : List ℕ) (lebs : List Leb) → rows (map (take_leb taken) lebs) ≡ map (take_row taken) (rows lebs)
take_rows taken [] = refl
take_rows taken (leb ∷ lebs) = by (is_among taken leb.lnum) (take_rows taken lebs)
  where
    by : (b : Bool) → rows (map (take_leb taken) lebs) ≡ map (take_row taken) (rows lebs)
        → ((cond b (record leb { role = kind.Taken }) leb).lnum, (cond b (record leb { role = kind.Taken }) leb).role) ∷ rows (map (take_leb taken) lebs)
        ≡ cond b (leb.lnum, kind.Taken) (leb.lnum, leb.role) ∷ map (take_row taken) (rows lebs)
    by true rest = ap (λ (z : List Row). (leb.lnum, kind.Taken) ∷ z) rest
    by false rest = ap (λ (z : List Row). (leb.lnum, leb.role) ∷ z) rest

pub take_number : (taken : List ℕ) (r : Row) → (take_row taken r).0 ≡ r.0
take_number taken r = by (is_among taken r.0)
  where
    by : (b : Bool) → (cond b (r.0, kind.Taken) r).0 ≡ r.0
    by true = refl
    by false = refl

-- what is taken was empty
pub taken_free : (rs : List Row) (taken : List ℕ) (n : ℕ) → list_all (has_row kind.Free rs) taken ≡ true → is_among taken n ≡ true → has_row kind.Free rs n ≡ true
taken_free rs [] n h i = absurd (false≢true i)
taken_free rs (k ∷ taken) n h i = let p = and_parts (has_row kind.Free rs k) (list_all (has_row kind.Free rs) taken) h in by p.0 (taken_free rs taken n p.1) (either_of (k == n) (is_among taken n) i)
  where
    by : has_row kind.Free rs k ≡ true → (is_among taken n ≡ true → has_row kind.Free rs n ≡ true) → ((k == n) ≡ true) ⊎ (is_among taken n ≡ true) → has_row kind.Free rs n ≡ true
    by first rest (inl e) = subst (λ (z : ℕ). has_row kind.Free rs z ≡ true) (eqb-true k n e) first
    by first rest (inr e) = rest e

take_other : (role : LebKind) (taken : List ℕ) (n : ℕ) (rs : List Row) → is_among taken n ≡ false → has_row role (map (take_row taken) rs) n ≡ has_row role rs n
take_other role taken n [] away = refl
take_other role taken n (r ∷ rs) away = by (is_among taken r.0) refl (take_other role taken n rs away)
  where
    apart : is_among taken r.0 ≡ true → (r.0 == n) ≡ false
    apart e = one (r.0 == n) refl
      where
        one : (b : Bool) → (r.0 == n) ≡ b → b ≡ false
        one true same = absurd (false≢true (sym away ∙ subst (λ (z : ℕ). is_among taken z ≡ true) (eqb-true r.0 n same) e))
        one false same = refl

    by : (b : Bool) → is_among taken r.0 ≡ b → has_row role (map (take_row taken) rs) n ≡ has_row role rs n
        → ((((cond b (r.0, kind.Taken) r).0 == n) && is_role role (cond b (r.0, kind.Taken) r).1) || has_row role (map (take_row taken) rs) n) ≡ (((r.0 == n) && is_role role r.1) || has_row role rs n)
    by true e rest =
        ap (λ (b : Bool). (b && is_role role kind.Taken) || has_row role (map (take_row taken) rs) n) (apart e) ∙ rest ∙ sym (ap (λ (b : Bool). (b && is_role role r.1) || has_row role rs n) (apart e))
    by false e rest = ap (λ (z : Bool). ((r.0 == n) && is_role role r.1) || z) rest

pub take_keeps : (role : LebKind) (taken : List ℕ) (n : ℕ) (rs : List Row) → are_distinct (numbers_of rs) ≡ true → list_all (has_row kind.Free rs) taken ≡ true → is_role kind.Free role ≡ false → has_row role rs n ≡ true
    → has_row role (map (take_row taken) rs) n ≡ true
take_keeps role taken n rs d free away h = by (is_among taken n) refl
  where
    by : (b : Bool) → is_among taken n ≡ b → has_row role (map (take_row taken) rs) n ≡ true
    by true e =
        let same : kind.Free ≡ role = one_role kind.Free role rs n d (taken_free rs taken n free e) h in
        absurd (false≢true (sym away ∙ subst (λ (r : LebKind). is_role kind.Free r ≡ true) same refl))
    by false e = take_other role taken n rs e ∙ h

start_use : (m : Store) (taken : List ℕ) (n : ℕ) (role : LebKind) → m.next ≡ None → is_used m n role ≡ true → is_used (start taken m) n role ≡ true
start_use m taken n kind.Free e h = h
start_use m taken n kind.Leaf e h = h
start_use m taken n kind.Index e h = h
start_use m taken n kind.Bud e h = h
start_use m taken n kind.Taken e h = absurd (false≢true (sym (ap (λ (o : Option Next). is_among (lebs_taken o) n) e) ∙ (and_parts (not (has_leaf m n)) (is_among (lebs_taken m.next) n) h).1))

pub start_apart : (m : Store) (taken : List ℕ) → CanStart m taken → AreRolesApart m → AreRolesApart (start taken m)
start_apart m taken can a = from_rows k (subst (AreRows k) (sym (take_rows taken m.lebs)) (record {
  numbers = ap are_distinct (numbers_kept (take_row taken) (take_number taken) rs) ∙ r.numbers;
  used = used_kept m k (take_row taken) rs (λ row there h. use_of row there h (is_among taken row.0) refl) rs (all_in rs) r.used;
  buds = all_weaker (λ (bud : Bud). has_row kind.Bud rs bud.lnum) (λ bud. has_row kind.Bud new bud.lnum) (λ bud h. take_keeps kind.Bud taken bud.lnum rs r.numbers free refl h) m.now.buds r.buds;
  index = all_weaker (λ (place : IndexNodePlace). has_row kind.Index rs place.lnum) (λ place. has_row kind.Index new place.lnum) (λ place h. take_keeps kind.Index taken place.lnum rs r.numbers free refl h) m.now.places r.index;
  leaves = all_weaker (λ (x : Kept). has_row kind.Leaf rs x.leaf.lnum || has_row kind.Bud rs x.leaf.lnum) (λ x. has_row kind.Leaf new x.leaf.lnum || has_row kind.Bud new x.leaf.lnum) leaf m.live r.leaves;
  victim = victim_taken m.moving r.victim;
})) a.ends
  where
    k : Store
    k = start taken m

    rs : List Row
    rs = rows m.lebs

    new : List Row
    new = map (take_row taken) rs

    r : AreRows m rs
    r = to_rows m a

    free : list_all (has_row kind.Free rs) taken ≡ true
    free = all_weaker (has_role kind.Free m.lebs) (has_row kind.Free rs) (λ n h. sym (role_row kind.Free m.lebs n) ∙ h) taken can.empty

    use_of : (row : Row) → IsRowIn rs row → is_used m row.0 row.1 ≡ true → (b : Bool) → is_among taken row.0 ≡ b → is_used k (cond {A = Row} b (row.0, kind.Taken) row).0 (cond {A = Row} b (row.0, kind.Taken) row).1 ≡ true
    use_of row there h true e =
        let same : kind.Free ≡ row.1 = one_role kind.Free row.1 rs row.0 r.numbers (taken_free rs taken row.0 free e) there in
        and_from (not (has_leaf m row.0)) (is_among taken row.0) (subst (λ (role : LebKind). is_used m row.0 role ≡ true) (sym same) h) e
    use_of row there h false e = start_use m taken row.0 row.1 can.idle h

    leaf : (x : Kept) → (has_row kind.Leaf rs x.leaf.lnum || has_row kind.Bud rs x.leaf.lnum) ≡ true → (has_row kind.Leaf new x.leaf.lnum || has_row kind.Bud new x.leaf.lnum) ≡ true
    leaf x h = by (either_of (has_row kind.Leaf rs x.leaf.lnum) (has_row kind.Bud rs x.leaf.lnum) h)
      where
        by : (has_row kind.Leaf rs x.leaf.lnum ≡ true) ⊎ (has_row kind.Bud rs x.leaf.lnum ≡ true) → (has_row kind.Leaf new x.leaf.lnum || has_row kind.Bud new x.leaf.lnum) ≡ true
        by (inl e) = or_left (has_row kind.Leaf new x.leaf.lnum) (has_row kind.Bud new x.leaf.lnum) (take_keeps kind.Leaf taken x.leaf.lnum rs r.numbers free refl e)
        by (inr e) = or_right (has_row kind.Leaf new x.leaf.lnum) (has_row kind.Bud new x.leaf.lnum) (take_keeps kind.Bud taken x.leaf.lnum rs r.numbers free refl e)

    victim_taken : (moving : Option Moving) → victim_row rs moving ≡ true → victim_row new moving ≡ true
    victim_taken None h = refl
    victim_taken (Some moving) h = take_keeps kind.Leaf taken moving.victim rs r.numbers free refl h
