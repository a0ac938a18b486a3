-- What a copy makes of LEBs: it stands in the LEB of the collector's head, and the victim may lose its last leaf.
use Rattle.std.proofs.Common.{◌≡◌, ◌⊎◌, ℕ, Bool, true, false, cond, not, List, [], ◌∷◌, ◌++◌, map, refl, sym, ap, subst, ◌∙◌, inl, inr, Option, Some, None}
use Rattle.std.specs.Prelude.{◌==◌, ◌&&◌, ◌||◌}
use Rattle.std.specs.List.{list_all, list_any}
use Rattle.std.specs.Option.{option_or}
use Rattle.std.proofs.lemmas.Bool.{and_parts, and_from, eqb-true, false≢true}
use Rattle.index_tree.specs.declared.leaf.Leaf.{Leaf}
use Rattle.index_tree.specs.Order.{leaf_rank}
use Rattle.index_tree.specs.Removal.{same_leaf}
use Rattle.media_lpt.specs.declared.leb_kind.LebKind.{LebKind}
use Rattle.media_lpt.specs.declared.leb_kind.LebKind.TheVariants as kind
use Rattle.leaf_map.specs.Kept.{Kept, kept_at}
use Rattle.store_model.specs.Events.{at_its_copy, Copying, end_at, in_next, move, moved_on, nodes_len}
use Rattle.store_model.specs.Heads.{changed_last, has_bud, with_copy}
use Rattle.store_model.specs.Invariant.{AreRolesApart, is_used, last_bud, lebs_taken}
use Rattle.store_model.specs.Lebs.{has_leaf, is_among, is_victim_of, stands_in}
use Rattle.store_model.specs.Legal.{CanMove, FitHead, IfMoving}
use Rattle.store_model.specs.Store.{At, Bud, leaf, Moving, Store}
use Rattle.store_model.proofs.LebLeaves.{or_none}
use Rattle.store_model.proofs.LebPuts.{ends_go_on, head_role, other_leb, same_taken, text_rows}
use Rattle.store_model.proofs.LebRows.{AreRows, Row, all_in, from_rows, has_row, not_more, rows, to_rows, used_stays}
use Rattle.store_model.proofs.RecoveryCopies.{either_of}
use Rattle.store_model.proofs.RecoveryOrder.{or_left, or_right}
use Rattle.store_model.proofs.Sorting.{or_false}

-- ---- buds whose last one of a head is changed
pub changed_all : (test : Bud → Bool) (change : Bud → Bud) → ((bud : Bud) → test (change bud) ≡ test bud) → (h : ℕ) (buds : List Bud) → list_all test (changed_last h change buds) ≡ list_all test buds
changed_all test change same h [] = refl
changed_all test change same h (bud ∷ buds) = by (changed_all test change same h buds) ((bud.head == h) && not (has_bud h buds)) refl
  where
    by : list_all test (changed_last h change buds) ≡ list_all test buds → (b : Bool) → ((bud.head == h) && not (has_bud h buds)) ≡ b → list_all test (changed_last h change (bud ∷ buds)) ≡ list_all test (bud ∷ buds)
    by rest true e = rw e (ap (λ z. z && list_all test buds) (same bud))
    by rest false e = rw e (ap (λ z. test bud && z) rest)

changed_any : (test : Bud → Bool) (change : Bud → Bud) → ((bud : Bud) → test (change bud) ≡ test bud) → (h : ℕ) (buds : List Bud) → list_any test (changed_last h change buds) ≡ list_any test buds
changed_any test change same h [] = refl
changed_any test change same h (bud ∷ buds) = by (changed_any test change same h buds) ((bud.head == h) && not (has_bud h buds)) refl
  where
    by : list_any test (changed_last h change buds) ≡ list_any test buds → (b : Bool) → ((bud.head == h) && not (has_bud h buds)) ≡ b → list_any test (changed_last h change (bud ∷ buds)) ≡ list_any test (bud ∷ buds)
    by rest true e = rw e (ap (λ z. z || list_any test buds) (same bud))
    by rest false e = rw e (ap (λ z. test bud || z) rest)

changed_at : (head : ℕ) (change : Bud → Bud) → ((bud : Bud) → (change bud).head ≡ bud.head) → ((bud : Bud) → (change bud).lnum ≡ bud.lnum) → (h : ℕ) (buds : List Bud) → last_bud (changed_last h change buds) head ≡ last_bud buds head
changed_at head change heads lnums h [] = refl
changed_at head change heads lnums h (bud ∷ buds) = by (changed_at head change heads lnums h buds) ((bud.head == h) && not (has_bud h buds)) refl
  where
    by : last_bud (changed_last h change buds) head ≡ last_bud buds head → (b : Bool) → ((bud.head == h) && not (has_bud h buds)) ≡ b → last_bud (changed_last h change (bud ∷ buds)) head ≡ last_bud (bud ∷ buds) head
    by rest true e = rw (e, heads bud, lnums bud) refl
    by rest false e = rw e (ap (λ (o : Option ℕ). option_or o (cond (bud.head == head) (Some bud.lnum) None)) rest)

-- a head's last bud stays where it is
pub last_copied : (head : ℕ) (c : Copying) (buds : List Bud) → last_bud (with_copy c.copy buds) head ≡ last_bud buds head
last_copied head c buds = changed_at head (λ bud. record bud { copies = bud.copies ++ c.copy ∷ [] }) (λ bud. refl) (λ bud. refl) 0 buds

-- ---- leaves of which one stands at its copy
same_leb : (x y : Leaf) → same_leaf x y ≡ true → x.lnum ≡ y.lnum
unfolding same_leaf
same_leb x y h = by (leaf_rank x == leaf_rank y) (x.lnum == y.lnum) refl h
  where
    by : (a b : Bool) → (x.lnum == y.lnum) ≡ b → cond a (cond b (cond (x.offs == y.offs) (x.len == y.len) false) false) false ≡ true → x.lnum ≡ y.lnum
    by true true e h = eqb-true x.lnum y.lnum e
    by true false e h = absurd (false≢true h)
    by false b e h = absurd (false≢true h)

copied_none : (c : Copying) (n : ℕ) (live : List Kept) → (c.copy.lnum == n) ≡ false → list_any (stands_in n) live ≡ false → list_any (stands_in n) (map (at_its_copy c) live) ≡ false
copied_none c n [] away none = refl
copied_none c n (x ∷ live) away none =
    let p = or_false (x.leaf.lnum == n) (list_any (stands_in n) live) none in
    or_none (stands_in n (at_its_copy c x)) (list_any (stands_in n) (map (at_its_copy c) live)) (by (same_leaf x.leaf c.leaf.leaf) p.0) (copied_none c n live away p.1)
  where
    by : (b : Bool) → (x.leaf.lnum == n) ≡ false → stands_in n (cond b (record x { leaf = (kept_at c.copy).leaf }) x) ≡ false
    by true first = away
    by false first = first

copied_stays : (c : Copying) (n : ℕ) (live : List Kept) → (c.leaf.leaf.lnum == n) ≡ false → list_any (stands_in n) live ≡ true → list_any (stands_in n) (map (at_its_copy c) live) ≡ true
copied_stays c n [] away some = absurd (false≢true some)
copied_stays c n (x ∷ live) away some = by (copied_stays c n live away) (either_of (x.leaf.lnum == n) (list_any (stands_in n) live) some)
  where
    first : (x.leaf.lnum == n) ≡ true → (b : Bool) → same_leaf x.leaf c.leaf.leaf ≡ b → stands_in n (cond b (record x { leaf = (kept_at c.copy).leaf }) x) ≡ true
    first here true e = absurd (false≢true (sym away ∙ ap (λ (k : ℕ). k == n) (sym (same_leb x.leaf c.leaf.leaf e)) ∙ here))
    first here false e = here

    by : (list_any (stands_in n) live ≡ true → list_any (stands_in n) (map (at_its_copy c) live) ≡ true) → ((x.leaf.lnum == n) ≡ true) ⊎ (list_any (stands_in n) live ≡ true) → list_any (stands_in n) (map (at_its_copy c) (x ∷ live)) ≡ true
    by rest (inl here) = or_left (stands_in n (at_its_copy c x)) (list_any (stands_in n) (map (at_its_copy c) live)) (first here (same_leaf x.leaf c.leaf.leaf) refl)
    by rest (inr e) = or_right (stands_in n (at_its_copy c x)) (list_any (stands_in n) (map (at_its_copy c) live)) (rest e)

copied_all : (test : ℕ → Bool) (c : Copying) (live : List Kept) → test c.copy.lnum ≡ true → list_all (λ x. test x.leaf.lnum) live ≡ true → list_all (λ x. test x.leaf.lnum) (map (at_its_copy c) live) ≡ true
copied_all test c [] t h = refl
copied_all test c (x ∷ live) t h =
    let p = and_parts (test x.leaf.lnum) (list_all (λ x. test x.leaf.lnum) live) h in
    and_from (test (at_its_copy c x).leaf.lnum) (list_all (λ x. test x.leaf.lnum) (map (at_its_copy c) live)) (by (same_leaf x.leaf c.leaf.leaf) p.0) (copied_all test c live t p.1)
  where
    by : (b : Bool) → test x.leaf.lnum ≡ true → test (cond b (record x { leaf = (kept_at c.copy).leaf }) x).leaf.lnum ≡ true
    by true h = t
    by false h = h

-- ---- the copy
pub moved_rows : (m : Store) (c : Copying) (o : Option At) → end_at m.ends 0 ≡ o → rows (move c m).lebs ≡ rows m.lebs
moved_rows m c None e = rw e refl
moved_rows m c (Some at) e = rw e (text_rows at.lnum (leaf c.copy ∷ []) m.lebs)

-- the leaf that is copied stands in the victim
from_victim : (m : Store) (n lnum : ℕ) → IfMoving m (λ moving. lnum ≡ moving.victim) → is_victim_of m.moving n ≡ false → (lnum == n) ≡ false
from_victim m n lnum in_victim away = by m.moving refl
  where
    by : (o : Option Moving) → m.moving ≡ o → (lnum == n) ≡ false
    by None e = absurd (rw e at in_victim)
    by (Some moving) e =
        let is : lnum ≡ moving.victim = rw e at in_victim in
        let other : (moving.victim == n) ≡ false = rw e at away in
        ap (λ (k : ℕ). k == n) is ∙ other

pub move_apart : (m : Store) (c : Copying) → CanMove m c → AreRolesApart m → AreRolesApart (move c m)
move_apart m c can a = by (end_at m.ends 0) refl can.fits
  where
    k : Store
    k = move c m

    rs : List Row
    rs = rows m.lebs

    r : AreRows m rs
    r = to_rows m a

    none : (n : ℕ) (role : LebKind) → has_row kind.Bud rs c.copy.lnum ≡ true → has_row role rs n ≡ true → (c.copy.lnum == n) ≡ false → has_leaf m n ≡ false → has_leaf k n ≡ false
    none n role bud there away h =
        let p = or_false (list_any (stands_in n) m.live) (list_any (stands_in n) m.held) h in
        or_none (list_any (stands_in n) (map (at_its_copy c) m.live)) (list_any (stands_in n) m.held) (copied_none c n m.live away p.0) p.1

    stays : (n : ℕ) → is_victim_of m.moving n ≡ false → has_leaf m n ≡ true → has_leaf k n ≡ true
    stays n away h = of (either_of (list_any (stands_in n) m.live) (list_any (stands_in n) m.held) h)
      where
        of : (list_any (stands_in n) m.live ≡ true) ⊎ (list_any (stands_in n) m.held ≡ true) → has_leaf k n ≡ true
        of (inl e) = or_left (list_any (stands_in n) (map (at_its_copy c) m.live)) (list_any (stands_in n) m.held) (copied_stays c n m.live (from_victim m n c.leaf.leaf.lnum can.victim away) e)
        of (inr e) = or_right (list_any (stands_in n) (map (at_its_copy c) m.live)) (list_any (stands_in n) m.held) e

    leaf_use : (n : ℕ) (v : Bool) → is_victim_of m.moving n ≡ v → (has_leaf m n || v) ≡ true → (has_leaf k n || v) ≡ true
    leaf_use n true e h = or_right (has_leaf k n) true refl
    leaf_use n false e h = of (either_of (has_leaf m n) false h)
      where
        of : (has_leaf m n ≡ true) ⊎ (false ≡ true) → (has_leaf k n || false) ≡ true
        of (inl g) = or_left (has_leaf k n) false (stays n e g)
        of (inr g) = absurd (false≢true g)

    use_of : has_row kind.Bud rs c.copy.lnum ≡ true → (n : ℕ) (role : LebKind) → has_row role rs n ≡ true → is_used m n role ≡ true → is_used k n role ≡ true
    use_of bud n kind.Free there h = not_more (has_leaf m n) (has_leaf k n) (none n kind.Free bud there (other_leb rs c.copy.lnum n kind.Bud kind.Free r.numbers bud there refl)) h
    use_of bud n kind.Index there h = not_more (has_leaf m n) (has_leaf k n) (none n kind.Index bud there (other_leb rs c.copy.lnum n kind.Bud kind.Index r.numbers bud there refl)) h
    use_of bud n kind.Leaf there h = leaf_use n (is_victim_of m.moving n) refl h
    use_of bud n kind.Bud there h = changed_any (λ b. b.lnum == n) (λ b. record b { copies = b.copies ++ c.copy ∷ [] }) (λ b. refl) 0 m.now.buds ∙ h
    use_of bud n kind.Taken there h =
        let p = and_parts (not (has_leaf m n)) (is_among (lebs_taken m.next) n) h in
        and_from (not (has_leaf k n)) (is_among (lebs_taken k.next) n)
        (not_more (has_leaf m n) (has_leaf k n) (none n kind.Taken bud there (other_leb rs c.copy.lnum n kind.Bud kind.Taken r.numbers bud there refl)) p.0) (ap (λ (taken : List ℕ). is_among taken n) (same_taken (in_next (with_copy c.copy) 0) m.next (λ next. refl)) ∙ p.1)

    by : (o : Option At) → end_at m.ends 0 ≡ o → FitHead m o (c.copy ∷ []) → AreRolesApart k
    by None e fits = absurd fits
    by (Some at) e fits =
        let bud : has_row kind.Bud rs c.copy.lnum ≡ true = subst (λ (n : ℕ). has_row kind.Bud rs n ≡ true) (sym fits.0.0) (head_role m 0 at a e) in
        from_rows k (subst (AreRows k) (sym (moved_rows m c (Some at) e)) (record {
          numbers = r.numbers;
          used = used_stays m k rs (λ row there h. use_of bud row.0 row.1 there h) rs (all_in rs) r.used;
          buds = changed_all (λ b. has_row kind.Bud rs b.lnum) (λ b. record b { copies = b.copies ++ c.copy ∷ [] }) (λ b. refl) 0 m.now.buds ∙ r.buds;
          index = r.index;
          leaves = copied_all (λ n. has_row kind.Leaf rs n || has_row kind.Bud rs n) c m.live (or_right (has_row kind.Leaf rs c.copy.lnum) (has_row kind.Bud rs c.copy.lnum) bud) r.leaves;
          victim = r.victim;
        }))
        (ends_go_on m.now.buds k.now.buds 0 0 (moved_on m.geo (nodes_len (c.copy ∷ []))) m.ends (λ n. last_copied n c m.now.buds) (λ at. refl) a.ends)
