-- What LEBs are for is a matter of their numbers and roles alone.
use Rattle.std.proofs.Common.{Option, Some, None, ◌≡◌, ℕ, Bool, true, false, not, List, [], ◌∷◌, map, refl, sym, ap, subst, ◌∙◌, inl, inr, ◌⊎◌}
use Rattle.std.specs.Prelude.{◌==◌, ◌&&◌, ◌||◌}
use Rattle.std.specs.List.{AllByRecursion, list_all, list_any}
use Rattle.std.proofs.lemmas.Bool.{and_parts, and_from, eqb-true, eq-eqb, false≢true}
use Rattle.media_lpt.specs.declared.leb_kind.LebKind.{LebKind}
use Rattle.media_lpt.specs.declared.leb_kind.LebKind.TheVariants as kind
use Rattle.store_model.specs.Invariant.{AreRolesApart, AreAtBuds, has_victim, is_used, lebs_taken}
use Rattle.store_model.specs.Lebs.{has_leaf, has_role, is_among, is_role, is_victim_of}
use Rattle.store_model.specs.Legal.{are_distinct}
use Rattle.store_model.specs.Store.{Leb, Moving, Store}
use Rattle.store_model.proofs.RecoveryCopies.{either_of, not_true}
use Rattle.store_model.proofs.RecoveryOrder.{or_left, or_right}

-- a LEB's number and role
abbrev pub Row : Type 0
Row = ℕ × LebKind

abbrev pub rows : List Leb → List Row
rows lebs = map (λ leb. (leb.lnum, leb.role)) lebs

abbrev pub has_row : LebKind → List Row → ℕ → Bool
has_row role rs lnum = list_any (λ r. (r.0 == lnum) && is_role role r.1) rs

abbrev pub numbers_of : List Row → List ℕ
numbers_of rs = map (λ r. r.0) rs

-- a collection's victim, among the rows
abbrev pub victim_row : List Row → Option Moving → Bool
victim_row rs None = true
victim_row rs (Some moving) = has_row kind.Leaf rs moving.victim

pub record AreRows (m : Store) (rs : List Row) : Type 0 where
  pub numbers : are_distinct (numbers_of rs) ≡ true
  pub used : list_all (λ r. is_used m r.0 r.1) rs ≡ true
  pub buds : list_all (λ bud. has_row kind.Bud rs bud.lnum) m.now.buds ≡ true
  pub index : list_all (λ place. has_row kind.Index rs place.lnum) m.now.places ≡ true
  pub leaves : list_all (λ x. has_row kind.Leaf rs x.leaf.lnum || has_row kind.Bud rs x.leaf.lnum) m.live ≡ true
  pub victim : victim_row rs m.moving ≡ true

pub role_row : (role : LebKind) (lebs : List Leb) (lnum : ℕ) → has_role role lebs lnum ≡ has_row role (rows lebs) lnum
role_row role [] lnum = refl
role_row role (leb ∷ lebs) lnum = ap (λ b. ((leb.lnum == lnum) && is_role role leb.role) || b) (role_row role lebs lnum)

row_numbers : (lebs : List Leb) → map (λ leb. leb.lnum) lebs ≡ numbers_of (rows lebs)
row_numbers [] = refl
row_numbers (leb ∷ lebs) = ap (λ ns. leb.lnum ∷ ns) (row_numbers lebs)

row_used : (m : Store) (lebs : List Leb) → list_all (λ leb. is_used m leb.lnum leb.role) lebs ≡ list_all (λ r. is_used m r.0 r.1) (rows lebs)
row_used m [] = refl
row_used m (leb ∷ lebs) = ap (λ b. is_used m leb.lnum leb.role && b) (row_used m lebs)

pub all_same : {X : Type 0} (p q : X → Bool) → ((x : X) → p x ≡ q x) → (xs : List X) → list_all p xs ≡ list_all q xs
all_same p q same [] = refl
all_same p q same (x ∷ xs) = ap (λ b. b && list_all p xs) (same x) ∙ ap (λ b. q x && b) (all_same p q same xs)

row_victim : (lebs : List Leb) (moving : Option Moving) → has_victim lebs moving ≡ victim_row (rows lebs) moving
row_victim lebs None = refl
row_victim lebs (Some moving) = role_row kind.Leaf lebs moving.victim

pub to_rows : (m : Store) → AreRolesApart m → AreRows m (rows m.lebs)
to_rows m a = record {
  numbers = ap are_distinct (sym (row_numbers m.lebs)) ∙ a.numbers;
  used = sym (row_used m m.lebs) ∙ a.used;
  buds = sym (all_same (λ bud. has_role kind.Bud m.lebs bud.lnum) (λ bud. has_row kind.Bud (rows m.lebs) bud.lnum) (λ bud. role_row kind.Bud m.lebs bud.lnum) m.now.buds) ∙ a.buds;
  index = sym (all_same (λ place. has_role kind.Index m.lebs place.lnum) (λ place. has_row kind.Index (rows m.lebs) place.lnum) (λ place. role_row kind.Index m.lebs place.lnum) m.now.places) ∙ a.index;
  leaves = sym (all_same (λ x. has_role kind.Leaf m.lebs x.leaf.lnum || has_role kind.Bud m.lebs x.leaf.lnum) (λ x. has_row kind.Leaf (rows m.lebs) x.leaf.lnum || has_row kind.Bud (rows m.lebs) x.leaf.lnum)
      (λ x. ap (λ b. b || has_role kind.Bud m.lebs x.leaf.lnum) (role_row kind.Leaf m.lebs x.leaf.lnum) ∙ ap (λ b. has_row kind.Leaf (rows m.lebs) x.leaf.lnum || b) (role_row kind.Bud m.lebs x.leaf.lnum)) m.live)
      ∙ a.leaves;
  victim = sym (row_victim m.lebs m.moving) ∙ a.victim;
}

pub from_rows : (m : Store) → AreRows m (rows m.lebs) → AreAtBuds m.now.buds 0 m.ends → AreRolesApart m
from_rows m a ends = record {
  numbers = ap are_distinct (row_numbers m.lebs) ∙ a.numbers;
  used = row_used m m.lebs ∙ a.used;
  buds = all_same (λ bud. has_role kind.Bud m.lebs bud.lnum) (λ bud. has_row kind.Bud (rows m.lebs) bud.lnum) (λ bud. role_row kind.Bud m.lebs bud.lnum) m.now.buds ∙ a.buds;
  ends = ends;
  index = all_same (λ place. has_role kind.Index m.lebs place.lnum) (λ place. has_row kind.Index (rows m.lebs) place.lnum) (λ place. role_row kind.Index m.lebs place.lnum) m.now.places ∙ a.index;
  leaves = all_same (λ x. has_role kind.Leaf m.lebs x.leaf.lnum || has_role kind.Bud m.lebs x.leaf.lnum) (λ x. has_row kind.Leaf (rows m.lebs) x.leaf.lnum || has_row kind.Bud (rows m.lebs) x.leaf.lnum)
      (λ x. ap (λ b. b || has_role kind.Bud m.lebs x.leaf.lnum) (role_row kind.Leaf m.lebs x.leaf.lnum) ∙ ap (λ b. has_row kind.Leaf (rows m.lebs) x.leaf.lnum || b) (role_row kind.Bud m.lebs x.leaf.lnum)) m.live
      ∙ a.leaves;
  victim = row_victim m.lebs m.moving ∙ a.victim;
}

-- ---- roles
pub same_role : (a b : LebKind) → is_role a b ≡ true → a ≡ b
same_role kind.Free kind.Free h = refl
same_role kind.Leaf kind.Leaf h = refl
same_role kind.Index kind.Index h = refl
same_role kind.Bud kind.Bud h = refl
same_role kind.Taken kind.Taken h = refl
same_role a b h = absurd (false≢true h)

pub self_role : (a : LebKind) → is_role a a ≡ true
self_role kind.Free = refl
self_role kind.Leaf = refl
self_role kind.Index = refl
self_role kind.Bud = refl
self_role kind.Taken = refl

-- a LEB's number is among all
pub has_one : (role : LebKind) (rs : List Row) (lnum : ℕ) → has_row role rs lnum ≡ true → list_any (λ k. k == lnum) (numbers_of rs) ≡ true
has_one role [] lnum h = absurd (false≢true h)
has_one role (r ∷ rs) lnum h = by (has_one role rs lnum) (either_of ((r.0 == lnum) && is_role role r.1) (has_row role rs lnum) h)
  where
    by : (has_row role rs lnum ≡ true → list_any (λ k. k == lnum) (numbers_of rs) ≡ true) → (((r.0 == lnum) && is_role role r.1) ≡ true) ⊎ (has_row role rs lnum ≡ true) → list_any (λ k. k == lnum) (numbers_of (r ∷ rs)) ≡ true
    by rest (inl e) = or_left (r.0 == lnum) (list_any (λ k. k == lnum) (numbers_of rs)) (and_parts (r.0 == lnum) (is_role role r.1) e).0
    by rest (inr e) = or_right (r.0 == lnum) (list_any (λ k. k == lnum) (numbers_of rs)) (rest e)

-- a LEB has one role
pub one_role : (a b : LebKind) (rs : List Row) (lnum : ℕ) → are_distinct (numbers_of rs) ≡ true → has_row a rs lnum ≡ true → has_row b rs lnum ≡ true → a ≡ b
one_role a b [] lnum d h g = absurd (false≢true h)
one_role a b (r ∷ rs) lnum d h g = by (one_role a b rs lnum (and_parts (not (list_any (λ k. k == r.0) (numbers_of rs))) (are_distinct (numbers_of rs)) d).1) (either_of ((r.0 == lnum) && is_role a r.1) (has_row a rs lnum) h) (either_of ((r.0 == lnum) && is_role b r.1) (has_row b rs lnum) g)
  where
    apart : (role : LebKind) → (r.0 == lnum) ≡ true → has_row role rs lnum ≡ true → ⊥
    apart role e more =
        let p = and_parts (not (list_any (λ k. k == r.0) (numbers_of rs))) (are_distinct (numbers_of rs)) d in
        let there = subst (λ (n : ℕ). list_any (λ k. k == n) (numbers_of rs) ≡ true) (sym (eqb-true r.0 lnum e)) (has_one role rs lnum more) in
        absurd (false≢true (sym (not_true (list_any (λ k. k == r.0) (numbers_of rs)) p.0) ∙ there))

    by : (has_row a rs lnum ≡ true → has_row b rs lnum ≡ true → a ≡ b) → (((r.0 == lnum) && is_role a r.1) ≡ true) ⊎ (has_row a rs lnum ≡ true) → (((r.0 == lnum) && is_role b r.1) ≡ true) ⊎ (has_row b rs lnum ≡ true) → a ≡ b
    by rest (inl e) (inl f) = same_role a r.1 (and_parts (r.0 == lnum) (is_role a r.1) e).1 ∙ sym (same_role b r.1 (and_parts (r.0 == lnum) (is_role b r.1) f).1)
    by rest (inl e) (inr f) = absurd (apart b (and_parts (r.0 == lnum) (is_role a r.1) e).0 f)
    by rest (inr e) (inl f) = absurd (apart a (and_parts (r.0 == lnum) (is_role b r.1) f).0 e)
    by rest (inr e) (inr f) = rest e f

-- each LEB has its own role
abbrev pub IsRowIn : List Row → Row → Type 0
IsRowIn rs r = has_row r.1 rs r.0 ≡ true

all_more : (r : Row) (all rs : List Row) → AllByRecursion (IsRowIn all) rs → AllByRecursion (IsRowIn (r ∷ all)) rs
all_more r all [] h = tt
all_more r all (s ∷ rs) h = (or_right ((r.0 == s.0) && is_role s.1 r.1) (has_row s.1 all s.0) h.0, all_more r all rs h.1)

pub all_in : (rs : List Row) → AllByRecursion (IsRowIn rs) rs
all_in [] = tt
all_in (r ∷ rs) = (or_left ((r.0 == r.0) && is_role r.1 r.1) (has_row r.1 rs r.0) (and_from (r.0 == r.0) (is_role r.1 r.1) (eq-eqb r.0 r.0 refl) (self_role r.1)), all_more r rs rs (all_in rs))

-- ---- what an event makes of the rows
pub numbers_kept : (g : Row → Row) → ((r : Row) → (g r).0 ≡ r.0) → (rs : List Row) → numbers_of (map g rs) ≡ numbers_of rs
numbers_kept g keeps [] = refl
numbers_kept g keeps (r ∷ rs) = ap (λ n. n ∷ numbers_of (map g rs)) (keeps r) ∙ ap (λ ns. r.0 ∷ ns) (numbers_kept g keeps rs)

pub row_kept : (role : LebKind) (g : Row → Row) → ((r : Row) → (g r).0 ≡ r.0) → ((r : Row) → is_role role r.1 ≡ true → is_role role (g r).1 ≡ true) → (rs : List Row) (lnum : ℕ)
    → has_row role rs lnum ≡ true → has_row role (map g rs) lnum ≡ true
row_kept role g keeps more [] lnum h = h
row_kept role g keeps more (r ∷ rs) lnum h = by (row_kept role g keeps more rs lnum) (either_of ((r.0 == lnum) && is_role role r.1) (has_row role rs lnum) h)
  where
    by : (has_row role rs lnum ≡ true → has_row role (map g rs) lnum ≡ true) → (((r.0 == lnum) && is_role role r.1) ≡ true) ⊎ (has_row role rs lnum ≡ true) → has_row role (map g (r ∷ rs)) lnum ≡ true
    by rest (inl e) =
        let p = and_parts (r.0 == lnum) (is_role role r.1) e in
        or_left (((g r).0 == lnum) && is_role role (g r).1) (has_row role (map g rs) lnum) (and_from ((g r).0 == lnum) (is_role role (g r).1) (ap (λ n. n == lnum) (keeps r) ∙ p.0) (more r p.1))
    by rest (inr e) = or_right (((g r).0 == lnum) && is_role role (g r).1) (has_row role (map g rs) lnum) (rest e)

pub used_kept : (m k : Store) (g : Row → Row) (all : List Row) → ((r : Row) → IsRowIn all r → is_used m r.0 r.1 ≡ true → is_used k (g r).0 (g r).1 ≡ true)
    → (rs : List Row) → AllByRecursion (IsRowIn all) rs → list_all (λ r. is_used m r.0 r.1) rs ≡ true → list_all (λ r. is_used k r.0 r.1) (map g rs) ≡ true
used_kept m k g all one [] at h = refl
used_kept m k g all one (r ∷ rs) at h =
    let p = and_parts (is_used m r.0 r.1) (list_all (λ r. is_used m r.0 r.1) rs) h in
    and_from (is_used k (g r).0 (g r).1) (list_all (λ r. is_used k r.0 r.1) (map g rs)) (one r at.0 p.0) (used_kept m k g all one rs at.1 p.1)

pub used_stays : (m k : Store) (all : List Row) → ((r : Row) → IsRowIn all r → is_used m r.0 r.1 ≡ true → is_used k r.0 r.1 ≡ true)
    → (rs : List Row) → AllByRecursion (IsRowIn all) rs → list_all (λ r. is_used m r.0 r.1) rs ≡ true → list_all (λ r. is_used k r.0 r.1) rs ≡ true
used_stays m k all one [] at h = refl
used_stays m k all one (r ∷ rs) at h =
    let p = and_parts (is_used m r.0 r.1) (list_all (λ r. is_used m r.0 r.1) rs) h in
    and_from (is_used k r.0 r.1) (list_all (λ r. is_used k r.0 r.1) rs) (one r at.0 p.0) (used_stays m k all one rs at.1 p.1)

-- what passes a test passes a weaker one
pub all_weaker : {X : Type 0} (p q : X → Bool) → ((x : X) → p x ≡ true → q x ≡ true) → (xs : List X) → list_all p xs ≡ true → list_all q xs ≡ true
all_weaker p q more [] h = refl
all_weaker p q more (x ∷ xs) h = let t = and_parts (p x) (list_all p xs) h in and_from (q x) (list_all q xs) (more x t.0) (all_weaker p q more xs t.1)

-- ---- one LEB's use in two stores
pub record Uses (m k : Store) (lnum : ℕ) (role : LebKind) : Type 0 where
  pub leaf : role ≡ kind.Leaf → has_leaf m lnum ≡ true → has_leaf k lnum ≡ true
  pub none : is_role kind.Bud role ≡ false → has_leaf m lnum ≡ false → has_leaf k lnum ≡ false
  pub victim : is_victim_of k.moving lnum ≡ is_victim_of m.moving lnum
  pub buds : list_any (λ bud. bud.lnum == lnum) m.now.buds ≡ true → list_any (λ bud. bud.lnum == lnum) k.now.buds ≡ true
  pub next : lebs_taken k.next ≡ lebs_taken m.next

pub not_more : (a b : Bool) → (a ≡ false → b ≡ false) → not a ≡ true → not b ≡ true
not_more false b more h = ap not (more refl)
not_more true b more h = absurd (false≢true h)

or_more : (a b c : Bool) → (a ≡ true → b ≡ true) → (a || c) ≡ true → (b || c) ≡ true
or_more true b c more h = or_left b c (more refl)
or_more false b c more h = or_right b c h

pub used_follows : (m k : Store) (lnum : ℕ) (role : LebKind) → Uses m k lnum role → is_used m lnum role ≡ true → is_used k lnum role ≡ true
used_follows m k lnum kind.Free u h = not_more (has_leaf m lnum) (has_leaf k lnum) (u.none refl) h
used_follows m k lnum kind.Leaf u h =
    subst (λ (b : Bool). (has_leaf k lnum || b) ≡ true) (sym u.victim) (or_more (has_leaf m lnum) (has_leaf k lnum) (is_victim_of m.moving lnum) (u.leaf refl) h)
used_follows m k lnum kind.Index u h = not_more (has_leaf m lnum) (has_leaf k lnum) (u.none refl) h
used_follows m k lnum kind.Bud u h = u.buds h
used_follows m k lnum kind.Taken u h =
    let p = and_parts (not (has_leaf m lnum)) (is_among (lebs_taken m.next) lnum) h in
    and_from (not (has_leaf k lnum)) (is_among (lebs_taken k.next) lnum) (not_more (has_leaf m lnum) (has_leaf k lnum) (u.none refl) p.0) (ap (λ (taken : List ℕ). is_among taken lnum) u.next ∙ p.1)
