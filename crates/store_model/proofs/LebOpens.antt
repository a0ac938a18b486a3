-- What a LEB that is opened makes of LEBs: an empty one is a bud, and its head's last one.
use Rattle.std.proofs.Common.{◌≡◌, ◌⊎◌, ◌<◌, ℕ, zero, suc, ◌+◌, arith, Bool, true, false, cond, List, [], ◌∷◌, ◌++◌, map, refl, sym, ap, subst, ◌∙◌, inl, inr, Option, Some, None}
use Rattle.std.specs.Prelude.{◌==◌, ◌&&◌, ◌||◌}
use Rattle.std.specs.List.{list_all, list_any}
use Rattle.std.specs.Option.{option_map, option_or}
use Rattle.std.proofs.lemmas.Bool.{and_from, eqb-true, eq-eqb}
use Rattle.std.proofs.lemmas.List.Folds.{list_all-append, list_any-append}
use Rattle.media_lpt.specs.declared.leb_kind.LebKind.{LebKind}
use Rattle.media_lpt.specs.declared.leb_kind.LebKind.TheVariants as kind
use Rattle.leaf_map.specs.Kept.{Kept}
use Rattle.store_model.specs.Events.{changed_end, end_at, in_next, new_bud, open_leb, opened_for, padded_head}
use Rattle.store_model.specs.Invariant.{AreRolesApart, AreAtBuds, is_used, last_bud}
use Rattle.store_model.specs.Lebs.{changed_leb, has_role, is_role, is_victim_of}
use Rattle.store_model.specs.Legal.{are_distinct}
use Rattle.store_model.specs.Store.{At, Bud, Leb, Moving, IndexNodePlace, Store}
use Rattle.store_model.proofs.LebFrees.{padded_rows}
use Rattle.store_model.proofs.LebPuts.{other_leb, same_taken}
use Rattle.store_model.proofs.LebRows.{AreRows, Row, Uses, all_in, all_weaker, from_rows, has_row, numbers_kept, numbers_of, role_row, rows, to_rows, used_follows, used_kept, victim_row}
use Rattle.store_model.proofs.RecoveryCopies.{either_of}
use Rattle.store_model.proofs.RecoveryOrder.{or_left, or_right}

-- ---- rows of which one is opened
abbrev pub open_row : ℕ → Row → Row
open_row lnum r = cond (r.0 == lnum) (r.0, kind.Bud) r

open_rows : (lnum : ℕ) (lebs : List Leb) → rows (changed_leb lnum (λ leb. record leb { role = kind.Bud; text = [] }) lebs) ≡ map (open_row lnum) (rows lebs)
open_rows lnum [] = refl
open_rows lnum (leb ∷ lebs) = by (leb.lnum == lnum) (open_rows lnum lebs)
  where
    by : (b : Bool) → rows (changed_leb lnum (λ leb. record leb { role = kind.Bud; text = [] }) lebs) ≡ map (open_row lnum) (rows lebs)
        → ((cond b (record leb { role = kind.Bud; text = [] }) leb).lnum, (cond b (record leb { role = kind.Bud; text = [] }) leb).role) ∷ rows (changed_leb lnum (λ leb. record leb { role = kind.Bud; text = [] }) lebs)
        ≡ cond b (leb.lnum, kind.Bud) (leb.lnum, leb.role) ∷ map (open_row lnum) (rows lebs)
    by true rest = ap (λ (z : List Row). (leb.lnum, kind.Bud) ∷ z) rest
    by false rest = ap (λ (z : List Row). (leb.lnum, leb.role) ∷ z) rest

open_number : (lnum : ℕ) (r : Row) → (open_row lnum r).0 ≡ r.0
open_number lnum r = by (r.0 == lnum)
  where
    by : (b : Bool) → (cond b (r.0, kind.Bud) r).0 ≡ r.0
    by true = refl
    by false = refl

-- the LEB is a bud
pub opened_bud : (role : LebKind) (lnum : ℕ) (rs : List Row) → has_row role rs lnum ≡ true → has_row kind.Bud (map (open_row lnum) rs) lnum ≡ true
opened_bud role lnum [] h = h
opened_bud role lnum (r ∷ rs) h = by (opened_bud role lnum rs) (r.0 == lnum) refl h
  where
    by : (has_row role rs lnum ≡ true → has_row kind.Bud (map (open_row lnum) rs) lnum ≡ true) → (b : Bool) → (r.0 == lnum) ≡ b → ((b && is_role role r.1) || has_row role rs lnum) ≡ true
        → (((cond b (r.0, kind.Bud) r).0 == lnum) && is_role kind.Bud (cond b (r.0, kind.Bud) r).1 || has_row kind.Bud (map (open_row lnum) rs) lnum) ≡ true
    by rest true e h = or_left ((r.0 == lnum) && true) (has_row kind.Bud (map (open_row lnum) rs) lnum) (and_from (r.0 == lnum) true e refl)
    by rest false e h = or_right ((r.0 == lnum) && is_role kind.Bud r.1) (has_row kind.Bud (map (open_row lnum) rs) lnum) (rest h)

-- another is what it was
open_other : (role : LebKind) (lnum n : ℕ) (rs : List Row) → (lnum == n) ≡ false → has_row role (map (open_row lnum) rs) n ≡ has_row role rs n
open_other role lnum n [] away = refl
open_other role lnum n (r ∷ rs) away = by (r.0 == lnum) refl (open_other role lnum n rs away)
  where
    by : (b : Bool) → (r.0 == lnum) ≡ b → has_row role (map (open_row lnum) rs) n ≡ has_row role rs n
        → ((((cond b (r.0, kind.Bud) r).0 == n) && is_role role (cond b (r.0, kind.Bud) r).1) || has_row role (map (open_row lnum) rs) n) ≡ (((r.0 == n) && is_role role r.1) || has_row role rs n)
    by true e rest =
        let past : (r.0 == n) ≡ false = ap (λ (k : ℕ). k == n) (eqb-true r.0 lnum e) ∙ away in
        ap (λ (b : Bool). (b && is_role role kind.Bud) || has_row role (map (open_row lnum) rs) n) past ∙ rest ∙ sym (ap (λ (b : Bool). (b && is_role role r.1) || has_row role rs n) past)
    by false e rest = ap (λ (z : Bool). ((r.0 == n) && is_role role r.1) || z) rest

-- what has a role other than an empty LEB's keeps it
pub open_keeps : (role : LebKind) (lnum n : ℕ) (rs : List Row) → are_distinct (numbers_of rs) ≡ true → has_row kind.Free rs lnum ≡ true → is_role kind.Free role ≡ false → has_row role rs n ≡ true
    → has_row role (map (open_row lnum) rs) n ≡ true
open_keeps role lnum n rs d free away h = open_other role lnum n rs (other_leb rs lnum n kind.Free role d free h away) ∙ h

-- ---- heads
last_open : (head lnum n : ℕ) (buds : List Bud) → last_bud (buds ++ new_bud head lnum 0 ∷ []) n ≡ cond (head == n) (Some lnum) (last_bud buds n)
last_open head lnum n [] = refl
last_open head lnum n (bud ∷ buds) = ap (λ (o : Option ℕ). option_or o mine) (last_open head lnum n buds) ∙ by (head == n)
  where
    mine : Option ℕ
    mine = cond (bud.head == n) (Some bud.lnum) None

    by : (b : Bool) → option_or (cond b (Some lnum) (last_bud buds n)) mine ≡ cond b (Some lnum) (option_or (last_bud buds n) mine)
    by true = refl
    by false = refl

later_ends : (head lnum k : ℕ) (buds : List Bud) (ends : List (Option At)) → head < k → AreAtBuds buds k ends → AreAtBuds (buds ++ new_bud head lnum 0 ∷ []) k ends
later_ends head lnum k buds [] below are = tt
later_ends head lnum k buds (None ∷ ends) below are = later_ends head lnum (k + 1) buds ends (omega (arith, below)) are
later_ends head lnum k buds (Some at ∷ ends) below are = (last_open head lnum k buds ∙ rw (is_other head k below) are.0, later_ends head lnum (k + 1) buds ends (omega (arith, below)) are.1)
  where
    is_other : (a b : ℕ) → a < b → (a == b) ≡ false
    is_other a b h = grind (arith)

pub open_ends : (head lnum k i : ℕ) (at : At) (buds : List Bud) (ends : List (Option At)) → head ≡ k + i → at.lnum ≡ lnum → AreAtBuds buds k ends
    → AreAtBuds (buds ++ new_bud head lnum 0 ∷ []) k (changed_end i (λ old. Some at) ends)
open_ends head lnum k i at buds [] same is are = tt
open_ends head lnum k zero at buds (old ∷ ends) same is are = (last_open head lnum k buds ∙ rw (here head k (omega (arith, same))) (ap Some (sym is)), later_ends head lnum (k + 1) buds ends (omega (arith, same)) (tail old are))
  where
    here : (a b : ℕ) → a ≡ b → (a == b) ≡ true
    here a b h = eq-eqb a b h

    tail : (old : Option At) → AreAtBuds buds k (old ∷ ends) → AreAtBuds buds (k + 1) ends
    tail None are = are
    tail (Some at) are = are.1
open_ends head lnum k (suc i) at buds (None ∷ ends) same is are = open_ends head lnum (k + 1) i at buds ends (omega (arith, same)) is are
open_ends head lnum k (suc i) at buds (Some first ∷ ends) same is are =
    (last_open head lnum k buds ∙ rw (past head k i same) are.0, open_ends head lnum (k + 1) i at buds ends (omega (arith, same)) is are.1)
  where
    past : (a k i : ℕ) → a ≡ k + suc i → (a == k) ≡ false
    past a k i h = grind (arith)

-- ---- the event
same_victim : (head n : ℕ) (moving : Option Moving) → is_victim_of (option_map (opened_for head) moving) n ≡ is_victim_of moving n
same_victim head n None = refl
same_victim head n (Some moving) = by (head == 0)
  where
    by : (b : Bool) → ((cond b (record moving { opened = true }) moving).victim == n) ≡ (moving.victim == n)
    by true = refl
    by false = refl

pub open_lebs : (m : Store) (head lnum : ℕ) → rows (open_leb head lnum m).lebs ≡ map (open_row lnum) (rows m.lebs)
open_lebs m head lnum = open_rows lnum (padded_head m.geo m.lebs (end_at m.ends head)) ∙ ap (map (open_row lnum)) (padded_rows m.geo m.lebs (end_at m.ends head))

pub open_apart : (m : Store) (head lnum : ℕ) → has_role kind.Free m.lebs lnum ≡ true → AreRolesApart m → AreRolesApart (open_leb head lnum m)
open_apart m head lnum empty a = from_rows k (subst (AreRows k) (sym (open_lebs m head lnum)) (record {
  numbers = ap are_distinct (numbers_kept (open_row lnum) (open_number lnum) rs) ∙ r.numbers;
  used = used_kept m k (open_row lnum) rs (λ row there h. use_of row h (row.0 == lnum) refl) rs (all_in rs) r.used;
  buds = list_all-append (λ (bud : Bud). has_row kind.Bud new bud.lnum) m.now.buds (new_bud head lnum 0 ∷ [])
      ∙ and_from (list_all (λ (bud : Bud). has_row kind.Bud new bud.lnum) m.now.buds) (has_row kind.Bud new lnum && true)
      (all_weaker (λ (bud : Bud). has_row kind.Bud rs bud.lnum) (λ bud. has_row kind.Bud new bud.lnum) (λ bud h. open_keeps kind.Bud lnum bud.lnum rs r.numbers free refl h) m.now.buds r.buds)
      (and_from (has_row kind.Bud new lnum) true (opened_bud kind.Free lnum rs free) refl);
  index = all_weaker (λ (place : IndexNodePlace). has_row kind.Index rs place.lnum) (λ place. has_row kind.Index new place.lnum) (λ place h. open_keeps kind.Index lnum place.lnum rs r.numbers free refl h) m.now.places r.index;
  leaves = all_weaker (λ (x : Kept). has_row kind.Leaf rs x.leaf.lnum || has_row kind.Bud rs x.leaf.lnum) (λ x. has_row kind.Leaf new x.leaf.lnum || has_row kind.Bud new x.leaf.lnum) leaf m.live r.leaves;
  victim = opened_victim m.moving r.victim;
})) (open_ends head lnum 0 head (record { lnum = lnum; offs = 0; written = 0 }) m.now.buds m.ends (omega arith) refl a.ends)
  where
    k : Store
    k = open_leb head lnum m

    rs : List Row
    rs = rows m.lebs

    new : List Row
    new = map (open_row lnum) rs

    r : AreRows m rs
    r = to_rows m a

    free : has_row kind.Free rs lnum ≡ true
    free = sym (role_row kind.Free m.lebs lnum) ∙ empty

    opened_victim : (moving : Option Moving) → victim_row rs moving ≡ true → victim_row new (option_map (opened_for head) moving) ≡ true
    opened_victim None h = refl
    opened_victim (Some moving) h = by (head == 0)
      where
        by : (b : Bool) → has_row kind.Leaf new (cond b (record moving { opened = true }) moving).victim ≡ true
        by true = open_keeps kind.Leaf lnum moving.victim rs r.numbers free refl h
        by false = open_keeps kind.Leaf lnum moving.victim rs r.numbers free refl h

    uses : (n : ℕ) (role : LebKind) → Uses m k n role
    uses n role = record {
      leaf = λ e h. h;
      none = λ away h. h;
      victim = same_victim head n m.moving;
      buds = λ h. list_any-append (λ (bud : Bud). bud.lnum == n) m.now.buds (new_bud head lnum 0 ∷ []) ∙ or_left (list_any (λ (bud : Bud). bud.lnum == n) m.now.buds) ((lnum == n) || false) h;
      next = same_taken (in_next (λ buds. buds ++ new_bud head lnum 0 ∷ []) 0) m.next (λ next. refl);
    }

    use_of : (row : Row) → is_used m row.0 row.1 ≡ true → (b : Bool) → (row.0 == lnum) ≡ b → is_used k (cond {A = Row} b (row.0, kind.Bud) row).0 (cond {A = Row} b (row.0, kind.Bud) row).1 ≡ true
    use_of row h true e =
        list_any-append (λ (bud : Bud). bud.lnum == row.0) m.now.buds (new_bud head lnum 0 ∷ [])
        ∙ or_right (list_any (λ (bud : Bud). bud.lnum == row.0) m.now.buds) ((lnum == row.0) || false) (or_left (lnum == row.0) false (eq-eqb lnum row.0 (sym (eqb-true row.0 lnum e))))
    use_of row h false e = used_follows m k row.0 row.1 (uses row.0 row.1) h

    leaf : (x : Kept) → (has_row kind.Leaf rs x.leaf.lnum || has_row kind.Bud rs x.leaf.lnum) ≡ true → (has_row kind.Leaf new x.leaf.lnum || has_row kind.Bud new x.leaf.lnum) ≡ true
    leaf x h = by (either_of (has_row kind.Leaf rs x.leaf.lnum) (has_row kind.Bud rs x.leaf.lnum) h)
      where
        by : (has_row kind.Leaf rs x.leaf.lnum ≡ true) ⊎ (has_row kind.Bud rs x.leaf.lnum ≡ true) → (has_row kind.Leaf new x.leaf.lnum || has_row kind.Bud new x.leaf.lnum) ≡ true
        by (inl e) = or_left (has_row kind.Leaf new x.leaf.lnum) (has_row kind.Bud new x.leaf.lnum) (open_keeps kind.Leaf lnum x.leaf.lnum rs r.numbers free refl e)
        by (inr e) = or_right (has_row kind.Leaf new x.leaf.lnum) (has_row kind.Bud new x.leaf.lnum) (open_keeps kind.Bud lnum x.leaf.lnum rs r.numbers free refl e)
