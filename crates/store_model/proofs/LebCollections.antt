-- What the begin of a collection and its victim's freeing make of LEBs.
use Rattle.std.proofs.Common.{◌≡◌, ℕ, Bool, true, false, cond, not, List, [], ◌∷◌, map, refl, sym, ap, subst, ◌∙◌, Option, Some, None}
use Rattle.std.specs.Prelude.{◌==◌, ◌&&◌, ◌||◌}
use Rattle.std.specs.List.{list_any}
use Rattle.std.proofs.lemmas.Bool.{eqb-true, eq-eqb, false≢true}
use Rattle.media_lpt.specs.declared.leb_kind.LebKind.{LebKind}
use Rattle.media_lpt.specs.declared.leb_kind.LebKind.TheVariants as kind
use Rattle.leaf_map.specs.Kept.{Kept}
use Rattle.store_model.specs.Events.{begin, free_victim}
use Rattle.store_model.specs.Invariant.{AreRolesApart, is_used}
use Rattle.store_model.specs.Lebs.{changed_leb, emptied_leb, has_leaf, has_role, is_role, is_victim_of, stands_in}
use Rattle.store_model.specs.Legal.{are_distinct, CanFree}
use Rattle.store_model.specs.Store.{Bud, Leb, Moving, IndexNodePlace, Store}
use Rattle.store_model.proofs.LebFrees.{all_stand, both_all}
use Rattle.store_model.proofs.LebLeaves.{or_none}
use Rattle.store_model.proofs.LebPuts.{other_leb}
use Rattle.store_model.proofs.LebRows.{AreRows, Row, all_in, all_weaker, from_rows, has_row, numbers_kept, numbers_of, role_row, rows, to_rows, used_kept, used_stays, victim_row}
use Rattle.store_model.proofs.RecoveryCopies.{not_true}

-- ---- a collection begins
or_weaker : (a v w : Bool) → v ≡ false → (a || v) ≡ true → (a || w) ≡ true
or_weaker true v w e h = refl
or_weaker false v w e h = absurd (false≢true (sym e ∙ h))

begin_use : (m : Store) (victim n : ℕ) (role : LebKind) → m.moving ≡ None → is_used m n role ≡ true → is_used (begin victim m) n role ≡ true
begin_use m victim n kind.Free e h = h
begin_use m victim n kind.Leaf e h = or_weaker (has_leaf m n) (is_victim_of m.moving n) (victim == n) (ap (λ (o : Option Moving). is_victim_of o n) e) h
begin_use m victim n kind.Index e h = h
begin_use m victim n kind.Bud e h = h
begin_use m victim n kind.Taken e h = h

pub begin_apart : (m : Store) (victim : ℕ) → m.moving ≡ None → has_role kind.Leaf m.lebs victim ≡ true → AreRolesApart m → AreRolesApart (begin victim m)
begin_apart m victim idle leaf a =
    let rs : List Row = rows m.lebs in
    let r = to_rows m a in
    from_rows (begin victim m) (record {
      numbers = r.numbers;
      used = used_stays m (begin victim m) rs (λ row there h. begin_use m victim row.0 row.1 idle h) rs (all_in rs) r.used;
      buds = r.buds;
      index = r.index;
      leaves = r.leaves;
      victim = sym (role_row kind.Leaf m.lebs victim) ∙ leaf;
    }) a.ends

-- ---- the victim is empty
abbrev pub free_row : ℕ → Row → Row
free_row lnum r = cond (r.0 == lnum) (r.0, kind.Free) r

pub free_rows : (lnum : ℕ) (lebs : List Leb) → rows (changed_leb lnum emptied_leb lebs) ≡ map (free_row lnum) (rows lebs)
free_rows lnum [] = refl
free_rows lnum (leb ∷ lebs) = by (leb.lnum == lnum) (free_rows lnum lebs)
  where
    by : (b : Bool) → rows (changed_leb lnum emptied_leb lebs) ≡ map (free_row lnum) (rows lebs)
        → ((cond b (record leb { role = kind.Free; text = [] }) leb).lnum, (cond b (record leb { role = kind.Free; text = [] }) leb).role) ∷ rows (changed_leb lnum emptied_leb lebs)
        ≡ cond b (leb.lnum, kind.Free) (leb.lnum, leb.role) ∷ map (free_row lnum) (rows lebs)
    by true rest = ap (λ (z : List Row). (leb.lnum, kind.Free) ∷ z) rest
    by false rest = ap (λ (z : List Row). (leb.lnum, leb.role) ∷ z) rest

pub free_number : (lnum : ℕ) (r : Row) → (free_row lnum r).0 ≡ r.0
free_number lnum r = by (r.0 == lnum)
  where
    by : (b : Bool) → (cond b (r.0, kind.Free) r).0 ≡ r.0
    by true = refl
    by false = refl

free_other : (role : LebKind) (lnum n : ℕ) (rs : List Row) → (lnum == n) ≡ false → has_row role (map (free_row lnum) rs) n ≡ has_row role rs n
free_other role lnum n [] away = refl
free_other role lnum n (r ∷ rs) away = by (r.0 == lnum) refl (free_other role lnum n rs away)
  where
    by : (b : Bool) → (r.0 == lnum) ≡ b → has_row role (map (free_row lnum) rs) n ≡ has_row role rs n
        → ((((cond b (r.0, kind.Free) r).0 == n) && is_role role (cond b (r.0, kind.Free) r).1) || has_row role (map (free_row lnum) rs) n) ≡ (((r.0 == n) && is_role role r.1) || has_row role rs n)
    by true e rest =
        let past : (r.0 == n) ≡ false = ap (λ (k : ℕ). k == n) (eqb-true r.0 lnum e) ∙ away in
        ap (λ (b : Bool). (b && is_role role kind.Free) || has_row role (map (free_row lnum) rs) n) past ∙ rest ∙ sym (ap (λ (b : Bool). (b && is_role role r.1) || has_row role rs n) past)
    by false e rest = ap (λ (z : Bool). ((r.0 == n) && is_role role r.1) || z) rest

pub free_keeps : (role : LebKind) (lnum n : ℕ) (rs : List Row) → are_distinct (numbers_of rs) ≡ true → has_row kind.Leaf rs lnum ≡ true → is_role kind.Leaf role ≡ false → has_row role rs n ≡ true
    → has_row role (map (free_row lnum) rs) n ≡ true
free_keeps role lnum n rs d leaf away h = free_other role lnum n rs (other_leb rs lnum n kind.Leaf role d leaf h away) ∙ h

-- a LEB in which a leaf stands isn't the victim
not_there : (lnum n : ℕ) (live : List Kept) → list_any (stands_in lnum) live ≡ false → list_any (stands_in n) live ≡ true → (lnum == n) ≡ false
not_there lnum n live none some = by (lnum == n) refl
  where
    by : (b : Bool) → (lnum == n) ≡ b → b ≡ false
    by true e = absurd (false≢true (sym none ∙ subst (λ (k : ℕ). list_any (stands_in k) live ≡ true) (sym (eqb-true lnum n e)) some))
    by false e = refl

or_drop : (a v w : Bool) → v ≡ false → (a || v) ≡ true → (a || w) ≡ true
or_drop true v w e h = refl
or_drop false v w e h = absurd (false≢true (sym e ∙ h))

other_use : (m k : Store) (victim n : ℕ) (role : LebKind) → k.live ≡ m.live → k.held ≡ m.held → k.now ≡ m.now → k.next ≡ m.next → is_victim_of m.moving n ≡ false
    → is_used m n role ≡ true → is_used k n role ≡ true
other_use m k victim n kind.Free live held now next e h = rw (live, held) h
other_use m k victim n kind.Leaf live held now next e h = rw (live, held) (or_drop (has_leaf m n) (is_victim_of m.moving n) (is_victim_of k.moving n) e h)
other_use m k victim n kind.Index live held now next e h = rw (live, held) h
other_use m k victim n kind.Bud live held now next e h = rw now h
other_use m k victim n kind.Taken live held now next e h = rw (live, held, next) h

freed_apart : (m : Store) (moving : Moving) → m.moving ≡ Some moving → m.held ≡ [] → list_any (stands_in moving.victim) m.live ≡ false → AreRolesApart m → AreRolesApart (free_victim m (Some moving))
freed_apart m moving e none_held none a = from_rows k (subst (AreRows k) (sym (free_rows v m.lebs)) (record {
  numbers = ap are_distinct (numbers_kept (free_row v) (free_number v) rs) ∙ r.numbers;
  used = used_kept m k (free_row v) rs (λ row there h. use_of row h (row.0 == v) refl) rs (all_in rs) r.used;
  buds = all_weaker (λ (bud : Bud). has_row kind.Bud rs bud.lnum) (λ bud. has_row kind.Bud new bud.lnum) (λ bud h. free_keeps kind.Bud v bud.lnum rs r.numbers leaf refl h) m.now.buds r.buds;
  index = all_weaker (λ (place : IndexNodePlace). has_row kind.Index rs place.lnum) (λ place. has_row kind.Index new place.lnum) (λ place h. free_keeps kind.Index v place.lnum rs r.numbers leaf refl h) m.now.places r.index;
  leaves = both_all (λ (x : Kept). has_row kind.Leaf rs x.leaf.lnum || has_row kind.Bud rs x.leaf.lnum) (λ x. list_any (stands_in x.leaf.lnum) m.live) (λ x. has_row kind.Leaf new x.leaf.lnum || has_row kind.Bud new x.leaf.lnum)
      (λ x h g. leaf_of x h (not_there v x.leaf.lnum m.live none g)) m.live r.leaves (all_stand m.live);
  victim = refl;
})) a.ends
  where
    k : Store
    k = free_victim m (Some moving)

    v : ℕ
    v = moving.victim

    rs : List Row
    rs = rows m.lebs

    new : List Row
    new = map (free_row v) rs

    r : AreRows m rs
    r = to_rows m a

    leaf : has_row kind.Leaf rs v ≡ true
    leaf = subst (λ (o : Option Moving). victim_row rs o ≡ true) e r.victim

    other : (n : ℕ) → (n == v) ≡ false → is_victim_of m.moving n ≡ false
    other n away = ap (λ (o : Option Moving). is_victim_of o n) e ∙ by (v == n) refl
      where
        by : (b : Bool) → (v == n) ≡ b → b ≡ false
        by true same = absurd (false≢true (sym away ∙ eq-eqb n v (sym (eqb-true v n same))))
        by false same = refl

    use_of : (row : Row) → is_used m row.0 row.1 ≡ true → (b : Bool) → (row.0 == v) ≡ b → is_used k (cond {A = Row} b (row.0, kind.Free) row).0 (cond {A = Row} b (row.0, kind.Free) row).1 ≡ true
    use_of row h true same =
        ap not (or_none (list_any (stands_in row.0) m.live) (list_any (stands_in row.0) m.held)
        (subst (λ (n : ℕ). list_any (stands_in n) m.live ≡ false) (sym (eqb-true row.0 v same)) none) (ap (λ (held : List Kept). list_any (stands_in row.0) held) none_held))
    use_of row h false same = other_use m k v row.0 row.1 refl refl refl refl (other row.0 same) h

    leaf_of : (x : Kept) → (has_row kind.Leaf rs x.leaf.lnum || has_row kind.Bud rs x.leaf.lnum) ≡ true → (v == x.leaf.lnum) ≡ false → (has_row kind.Leaf new x.leaf.lnum || has_row kind.Bud new x.leaf.lnum) ≡ true
    leaf_of x h away =
        ap (λ (b : Bool). b || has_row kind.Bud new x.leaf.lnum) (free_other kind.Leaf v x.leaf.lnum rs away) ∙ ap (λ (b : Bool). has_row kind.Leaf rs x.leaf.lnum || b) (free_other kind.Bud v x.leaf.lnum rs away) ∙ h

pub free_apart : (m : Store) → CanFree m → AreRolesApart m → AreRolesApart (free_victim m m.moving)
free_apart m can a = by m.moving refl
  where
    by : (o : Option Moving) → m.moving ≡ o → AreRolesApart (free_victim m o)
    by None e = absurd (rw e at can.empty)
    by (Some moving) e = freed_apart m moving e can.synced.none_held (not_true (list_any (stands_in moving.victim) m.live) (rw e at can.empty)) a
