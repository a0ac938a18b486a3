-- What a put makes of LEBs: each is for what it was for, and the group's leaves stand in its head's.
use Rattle.std.proofs.Common.{◌≡◌, ℕ, zero, suc, ◌+◌, arith, Bool, true, false, cond, not, List, [], ◌∷◌, ◌++◌, length, map, refl, sym, ap, subst, ◌∙◌, Option, Some, None}
use Rattle.std.specs.Prelude.{◌==◌, ◌&&◌, ◌||◌, fold}
use Rattle.std.specs.List.{list_all, list_any}
use Rattle.std.specs.Option.{option_map, option_or}
use Rattle.std.proofs.lemmas.Bool.{and_parts, eqb-true, false≢true}
use Rattle.media_lpt.specs.declared.leb_kind.LebKind.{LebKind}
use Rattle.media_lpt.specs.declared.leb_kind.LebKind.TheVariants as kind
use Rattle.store_model.specs.Events.{after_part, changed_end, credit, end_at, granted, Held, in_next, moved_on, nodes_len, paid, Part, Payment, Putting, with_items}
use Rattle.store_model.specs.Heads.{has_bud, with_head_group}
use Rattle.store_model.specs.Invariant.{AreRolesApart, AreAtBuds, last_bud, lebs_taken}
use Rattle.store_model.specs.Lebs.{is_role}
use Rattle.store_model.specs.Legal.{are_distinct, AreLegalParts, FitHead, IsLegalPart, StandFrom}
use Rattle.store_model.specs.Store.{At, Bud, Carried, Item, leaf, Leb, Next, Store}
use Rattle.store_model.proofs.LebLeaves.{AreIn, group_all, group_none, group_stays}
use Rattle.store_model.proofs.LebRows.{AreRows, Row, Uses, all_in, from_rows, has_row, numbers_of, one_role, rows, self_role, to_rows, used_follows, used_stays}
use Rattle.store_model.proofs.RecoveryOrder.{or_right}

-- ---- heads stand in their last buds
-- so does a head that is open
pub end_bud : (buds : List Bud) (k head n : ℕ) (ends : List (Option At)) (at : At) → n ≡ k + head → AreAtBuds buds k ends → end_at ends head ≡ Some at → last_bud buds n ≡ Some at.lnum
end_bud buds k head n [] at same are e = absurd (none head e)
  where
    none : (head : ℕ) → end_at [] head ≡ Some at → ⊥
    none zero e = absurd cc
    none (suc head) e = absurd cc
end_bud buds k zero n (None ∷ ends) at same are e = absurd cc
end_bud buds k zero n (Some first ∷ ends) at same are e =
    let is : first ≡ at = cc in
    let here : n ≡ k = omega (arith, same) in
    ap (last_bud buds) here ∙ are.0 ∙ ap (λ (a : At). Some a.lnum) is
end_bud buds k (suc head) n (None ∷ ends) at same are e = end_bud buds (k + 1) head n ends at (omega (arith, same)) are e
end_bud buds k (suc head) n (Some first ∷ ends) at same are e = end_bud buds (k + 1) head n ends at (omega (arith, same)) are.1 e

pub last_passes : (test : ℕ → Bool) (head l : ℕ) (buds : List Bud) → list_all (λ bud. test bud.lnum) buds ≡ true → last_bud buds head ≡ Some l → test l ≡ true
last_passes test head l [] h e = absurd cc
last_passes test head l (bud ∷ buds) h e = let p = and_parts (test bud.lnum) (list_all (λ bud. test bud.lnum) buds) h in by (λ k same. last_passes test head k buds p.1 same) p.0 (last_bud buds head) refl (bud.head == head) e
  where
    by : ((k : ℕ) → last_bud buds head ≡ Some k → test k ≡ true) → test bud.lnum ≡ true → (o : Option ℕ) → last_bud buds head ≡ o → (b : Bool) → option_or o (cond b (Some bud.lnum) None) ≡ Some l → test l ≡ true
    by rest first (Some k) same b e = rest l (same ∙ e)
    by rest first None same true e = let is : bud.lnum ≡ l = cc in subst (λ (z : ℕ). test z ≡ true) is first
    by rest first None same false e = absurd cc

-- ---- a group changes no bud's head or LEB
pub buds_pass : (test : Bud → Bool) → ((bud : Bud) (groups : List (List Carried)) → test (record bud { groups = groups }) ≡ test bud) → (h : ℕ) (group : List Carried) (buds : List Bud)
    → list_all test (with_head_group h group buds) ≡ list_all test buds
buds_pass test same h group [] = refl
buds_pass test same h group (bud ∷ buds) = by (buds_pass test same h group buds) ((bud.head == h) && not (has_bud h buds)) refl
  where
    by : list_all test (with_head_group h group buds) ≡ list_all test buds → (b : Bool) → ((bud.head == h) && not (has_bud h buds)) ≡ b → list_all test (with_head_group h group (bud ∷ buds)) ≡ list_all test (bud ∷ buds)
    by rest true e = rw e (ap (λ z. z && list_all test buds) (same bud (bud.groups ++ group ∷ [])))
    by rest false e = rw e (ap (λ z. test bud && z) rest)

pub buds_have : (test : Bud → Bool) → ((bud : Bud) (groups : List (List Carried)) → test (record bud { groups = groups }) ≡ test bud) → (h : ℕ) (group : List Carried) (buds : List Bud)
    → list_any test (with_head_group h group buds) ≡ list_any test buds
buds_have test same h group [] = refl
buds_have test same h group (bud ∷ buds) = by (buds_have test same h group buds) ((bud.head == h) && not (has_bud h buds)) refl
  where
    by : list_any test (with_head_group h group buds) ≡ list_any test buds → (b : Bool) → ((bud.head == h) && not (has_bud h buds)) ≡ b → list_any test (with_head_group h group (bud ∷ buds)) ≡ list_any test (bud ∷ buds)
    by rest true e = rw e (ap (λ z. z || list_any test buds) (same bud (bud.groups ++ group ∷ [])))
    by rest false e = rw e (ap (λ z. test bud || z) rest)

pub last_put : (head h : ℕ) (group : List Carried) (buds : List Bud) → last_bud (with_head_group h group buds) head ≡ last_bud buds head
last_put head h group [] = refl
last_put head h group (bud ∷ buds) = by (last_put head h group buds) ((bud.head == h) && not (has_bud h buds)) refl
  where
    by : last_bud (with_head_group h group buds) head ≡ last_bud buds head → (b : Bool) → ((bud.head == h) && not (has_bud h buds)) ≡ b → last_bud (with_head_group h group (bud ∷ buds)) head ≡ last_bud (bud ∷ buds) head
    by rest true e = rw e refl
    by rest false e = rw e (ap (λ (o : Option ℕ). option_or o (cond (bud.head == head) (Some bud.lnum) None)) rest)

-- ends that go on in their LEBs
pub all_go_on : (old new : List Bud) (k : ℕ) (ends : List (Option At)) → ((n : ℕ) → last_bud new n ≡ last_bud old n) → AreAtBuds old k ends → AreAtBuds new k ends
all_go_on old new k [] same are = tt
all_go_on old new k (None ∷ ends) same are = all_go_on old new (k + 1) ends same are
all_go_on old new k (Some at ∷ ends) same are = (same k ∙ are.0, all_go_on old new (k + 1) ends same are.1)

pub ends_go_on : (old new : List Bud) (k head : ℕ) (move : At → At) (ends : List (Option At)) → ((n : ℕ) → last_bud new n ≡ last_bud old n) → ((at : At) → (move at).lnum ≡ at.lnum)
    → AreAtBuds old k ends → AreAtBuds new k (changed_end head (option_map move) ends)
ends_go_on old new k head move [] same stays are = tt
ends_go_on old new k zero move (None ∷ ends) same stays are = all_go_on old new (k + 1) ends same are
ends_go_on old new k zero move (Some at ∷ ends) same stays are = (same k ∙ are.0 ∙ ap Some (sym (stays at)), all_go_on old new (k + 1) ends same are.1)
ends_go_on old new k (suc head) move (None ∷ ends) same stays are = ends_go_on old new (k + 1) head move ends same stays are
ends_go_on old new k (suc head) move (Some at ∷ ends) same stays are = (same k ∙ are.0, ends_go_on old new (k + 1) head move ends same stays are.1)

-- ---- text changes no row
pub text_rows : (n : ℕ) (items : List Item) (lebs : List Leb) → rows (with_items n items lebs) ≡ rows lebs
text_rows n items [] = refl
text_rows n items (leb ∷ lebs) = by (leb.lnum == n) (text_rows n items lebs)
  where
    by : (b : Bool) → rows (with_items n items lebs) ≡ rows lebs
        → ((cond b (record leb { text = leb.text ++ items }) leb).lnum, (cond b (record leb { text = leb.text ++ items }) leb).role) ∷ rows (with_items n items lebs) ≡ rows (leb ∷ lebs)
    by true rest = ap (λ (z : List Row). (leb.lnum, leb.role) ∷ z) rest
    by false rest = ap (λ (z : List Row). (leb.lnum, leb.role) ∷ z) rest

-- ---- a group
pub placed_in : (lnum offs : ℕ) (group : List Carried) → StandFrom lnum offs (map (λ c. c.placed) group) → AreIn lnum group
placed_in lnum offs [] s = tt
placed_in lnum offs (c ∷ group) s = (s.0, placed_in lnum (offs + nodes_len (c.placed ∷ [])) group s.3)

pub other_leb : (rs : List Row) (at lnum : ℕ) (a role : LebKind) → are_distinct (numbers_of rs) ≡ true → has_row a rs at ≡ true → has_row role rs lnum ≡ true → is_role a role ≡ false → (at == lnum) ≡ false
other_leb rs at lnum a role d here in_rows away = by (at == lnum) refl
  where
    by : (b : Bool) → (at == lnum) ≡ b → b ≡ false
    by true e =
        let same : a ≡ role = one_role a role rs lnum d (subst (λ (z : ℕ). has_row a rs z ≡ true) (eqb-true at lnum e) here) in_rows in
        absurd (false≢true (sym away ∙ subst (λ (r : LebKind). is_role a r ≡ true) same (self_role a)))
    by false e = refl

-- a running commit took what it took
pub same_taken : (f : Next → Next) (o : Option Next) → ((next : Next) → (f next).taken ≡ next.taken) → lebs_taken (option_map f o) ≡ lebs_taken o
same_taken f None same = refl
same_taken f (Some next) same = same next

-- a head's LEB is a bud
pub head_role : (m : Store) (head : ℕ) (at : At) → AreRolesApart m → end_at m.ends head ≡ Some at → has_row kind.Bud (rows m.lebs) at.lnum ≡ true
head_role m head at a e = last_passes (has_row kind.Bud (rows m.lebs)) head at.lnum m.now.buds (to_rows m a).buds (end_bud m.now.buds 0 head head m.ends at (omega arith) a.ends e)

pub part_lebs : (m : Store) (part : Part) (o : Option At) → end_at m.ends part.head ≡ o → rows (after_part m part).lebs ≡ rows m.lebs
part_lebs m part None e = rw e refl
part_lebs m part (Some at) e = rw e (text_rows at.lnum (map leaf (map (λ c. c.placed) part.group)) m.lebs)

pub part_apart : (m : Store) (part : Part) → IsLegalPart m part → AreRolesApart m → AreRolesApart (after_part m part)
part_apart m part is a = by (end_at m.ends part.head) refl is.fits
  where
    k : Store
    k = after_part m part

    rs : List Row
    rs = rows m.lebs

    r : AreRows m rs
    r = to_rows m a

    held : Held
    held = record { live = m.live; held = m.held }

    uses : (at : At) → AreIn at.lnum part.group → has_row kind.Bud rs at.lnum ≡ true → (lnum : ℕ) (role : LebKind) → has_row role rs lnum ≡ true → Uses m k lnum role
    uses at in_leb bud lnum role there = record {
      leaf = λ e h. group_stays lnum part.group held h;
      none = λ away h. group_none lnum at.lnum part.group held in_leb (other_leb rs at.lnum lnum kind.Bud role r.numbers bud there away) h;
      victim = refl;
      buds = λ h. buds_have (λ bud. bud.lnum == lnum) (λ bud groups. refl) part.head part.group m.now.buds ∙ h;
      next = same_taken (in_next (with_head_group part.head part.group) (length part.group)) m.next (λ next. refl);
    }

    by : (o : Option At) → end_at m.ends part.head ≡ o → FitHead m o (map (λ c. c.placed) part.group) → AreRolesApart k
    by None e fits = absurd fits
    by (Some at) e fits =
        let in_leb = placed_in at.lnum at.offs part.group fits.0 in
        let bud = head_role m part.head at a e in
        from_rows k (subst (AreRows k) (sym (part_lebs m part (Some at) e)) (record {
          numbers = r.numbers;
          used = used_stays m k rs (λ row there h. used_follows m k row.0 row.1 (uses at in_leb bud row.0 row.1 there) h) rs (all_in rs) r.used;
          buds = buds_pass (λ b. has_row kind.Bud rs b.lnum) (λ b groups. refl) part.head part.group m.now.buds ∙ r.buds;
          index = r.index;
          leaves = group_all (λ n. has_row kind.Leaf rs n || has_row kind.Bud rs n) at.lnum part.group held in_leb (or_right (has_row kind.Leaf rs at.lnum) (has_row kind.Bud rs at.lnum) bud) r.leaves;
          victim = r.victim;
        }))
        (ends_go_on m.now.buds k.now.buds 0 part.head (moved_on m.geo (nodes_len (map (λ c. c.placed) part.group))) m.ends (λ n. last_put n part.head part.group m.now.buds) (λ at. refl) a.ends)

pub parts_apart : (parts : List Part) (m : Store) → AreLegalParts m parts → AreRolesApart m → AreRolesApart (fold after_part m parts)
parts_apart [] m are a = a
parts_apart (part ∷ parts) m are a = parts_apart parts (after_part m part) are.1 (part_apart m part are.0 a)

-- what pays, and the index, are no matter of LEBs
pub put_apart : (p : Putting) (m : Store) → AreLegalParts m p.parts → AreRolesApart m → AreRolesApart (record (paid p.payment (fold after_part m p.parts)) { index = p.index })
put_apart p m are a = by p.payment (parts_apart p.parts m are a)
  where
    end : Store
    end = fold after_part m p.parts

    by : (payment : Payment) → AreRolesApart end → AreRolesApart (record (paid payment end) { index = p.index })
    by credit a = record { numbers = a.numbers; used = a.used; buds = a.buds; ends = a.ends; index = a.index; leaves = a.leaves; victim = a.victim }
    by granted a = record { numbers = a.numbers; used = a.used; buds = a.buds; ends = a.ends; index = a.index; leaves = a.leaves; victim = a.victim }
