-- What a gap, a LEB that is emptied and a sync make of texts: no node is changed, and what was put to buds ends in them.
use Rattle.std.proofs.Common.{◌≡◌, ◌⊎◌, ◌≤◌, ◌<◌, ℕ, zero, suc, ◌+◌, ◌-◌, ◌%◌, arith, Bool, true, false, cond, not, List, [], ◌∷◌, ◌++◌, map, take, refl, sym, ap, subst, ◌∙◌, append-nil, inl, inr, Option, Some, None}
use Rattle.std.specs.Prelude.{◌==◌, ◌&&◌, filter, fold, get_or, nat_le}
use Rattle.std.specs.List.{AllByRecursion, flat_map, list_all, list_any}
use Rattle.std.proofs.lemmas.Bool.{and_from, and_parts, eqb-true, false≢true}
use Rattle.std.proofs.lemmas.Grind.{flat_map-append}
use Rattle.std.proofs.lemmas.List.Folds.{list_all-append}
use Rattle.media_lpt.specs.declared.leb_kind.LebKind.{LebKind}
use Rattle.media_lpt.specs.declared.leb_kind.LebKind.TheVariants as kind
use Rattle.ubifs_base.specs.declared.raw_geometry.RawGeometry.{RawGeometry}
use Rattle.fs_model.specs.Cover.{round_8}
use Rattle.leaf_map.specs.Kept.{Placed}
use Rattle.store_model.specs.Events.{last_gap, padded_head, whole_store_units, with_items}
use Rattle.store_model.specs.Fits.{nodes_of_groups}
use Rattle.store_model.specs.Heads.{buds_of_head, copies_of, groups_of_head}
use Rattle.store_model.specs.Lebs.{emptied_leb, freed, has_leaf, is_role, is_victim_of}
use Rattle.store_model.specs.Legal.{are_distinct}
use Rattle.store_model.specs.Store.{At, Bud, Carried, gap, Leb, Store}
use Rattle.store_model.specs.Texts.{bud_nodes, IsBudIn, IsEnd, IsLaidOut, items_len, leaf_nodes, standing_nodes, synced_nodes, text_in}
use Rattle.store_model.proofs.LebRows.{has_one, has_row, numbers_of, rows, same_role}
use Rattle.store_model.proofs.RecoveryCopies.{either_of, not_true}
use Rattle.store_model.proofs.TextBuds.{KeepsNodes, same_nodes}
use Rattle.store_model.proofs.TextItems.{all_changed, all_text, laid_more, leaves_append, len_append, lnums, none_plus, standing_ends, text_grows}
use Rattle.store_model.proofs.Units.{whole_covers, whole_fits}

-- ---- a gap
gap_nodes : (geo : RawGeometry) (at : At) → leaf_nodes (last_gap geo at) ≡ []
gap_nodes geo at = by (at.offs == whole_store_units geo at.offs)
  where
    by : (b : Bool) → leaf_nodes (cond b [] (gap (whole_store_units geo at.offs - at.offs) ∷ [])) ≡ []
    by true = refl
    by false = refl

gap_standing : (geo : RawGeometry) (at : At) (lnum offs : ℕ) → standing_nodes lnum offs (last_gap geo at) ≡ []
gap_standing geo at lnum offs = by (at.offs == whole_store_units geo at.offs)
  where
    by : (b : Bool) → standing_nodes lnum offs (cond b [] (gap (whole_store_units geo at.offs - at.offs) ∷ [])) ≡ []
    by true = refl
    by false = refl

pub gap_len : (geo : RawGeometry) (at : At) → 0 < geo.min_io → at.offs + items_len (last_gap geo at) ≡ whole_store_units geo at.offs
gap_len geo at some = by (at.offs == whole_store_units geo at.offs) refl (whole_store_units geo at.offs) (whole_covers geo at.offs some) refl
  where
    by : (b : Bool) → (at.offs == whole_store_units geo at.offs) ≡ b → (w : ℕ) → at.offs ≤ w → w ≡ whole_store_units geo at.offs → at.offs + items_len (cond b [] (gap (whole_store_units geo at.offs - at.offs) ∷ [])) ≡ whole_store_units geo at.offs
    by true e w low is = let same = eqb-true at.offs (whole_store_units geo at.offs) e in omega (arith, same)
    by false e w low is = subst (λ (k : ℕ). at.offs + (k - at.offs + 0) ≡ k) is (filled at.offs w low)
      where
        filled : (n w : ℕ) → n ≤ w → n + (w - n + 0) ≡ w
        filled n w low = omega (arith, low)

pub padded_keeps : (geo : RawGeometry) (lebs : List Leb) (at : Option At) (k : ℕ) → KeepsNodes lebs (padded_head geo lebs at) k
padded_keeps geo lebs None k = same_nodes lebs lebs k refl
padded_keeps geo lebs (Some at) k = by (text_grows at.lnum k (last_gap geo at) lebs)
  where
    new : List Leb
    new = with_items at.lnum (last_gap geo at) lebs

    by : (text_in new k ≡ text_in lebs k) ⊎ (text_in new k ≡ text_in lebs k ++ last_gap geo at) → KeepsNodes lebs new k
    by (inl e) = same_nodes lebs new k e
    by (inr e) =
        let long : items_len (text_in new k) ≡ items_len (text_in lebs k) + items_len (last_gap geo at) = ap items_len e ∙ len_append (text_in lebs k) (last_gap geo at) in
        record {
          nodes =
              ap leaf_nodes e
              ∙ leaves_append (text_in lebs k) (last_gap geo at)
              ∙ ap (λ (ns : List Placed). leaf_nodes (text_in lebs k) ++ ns) (gap_nodes geo at)
              ∙ append-nil (leaf_nodes (text_in lebs k));
          longer = omega (arith, long);
        }

pub keeps_then : (a b c : List Leb) (k : ℕ) → KeepsNodes a b k → KeepsNodes b c k → KeepsNodes a c k
keeps_then a b c k x y = let p = x.longer in let q = y.longer in record { nodes = y.nodes ∙ x.nodes; longer = omega (arith, p, q) }

pub all_padded_keep : (geo : RawGeometry) (lebs : List Leb) (ends : List (Option At)) (k : ℕ) → KeepsNodes lebs (fold (padded_head geo) lebs ends) k
all_padded_keep geo lebs [] k = same_nodes lebs lebs k refl
all_padded_keep geo lebs (at ∷ ends) k = keeps_then lebs (padded_head geo lebs at) (fold (padded_head geo) (padded_head geo lebs at) ends) k (padded_keeps geo lebs at k) (all_padded_keep geo (padded_head geo lebs at) ends k)

pub padded_laid : (geo : RawGeometry) (lebs : List Leb) (at : Option At) → 0 < geo.min_io → geo.leb_size % geo.min_io ≡ 0 → are_distinct (lnums lebs) ≡ true → IsEnd geo lebs at
    → AllByRecursion (IsLaidOut geo) lebs → AllByRecursion (IsLaidOut geo) (padded_head geo lebs at)
padded_laid geo lebs None some whole d e laid = laid
padded_laid geo lebs (Some at) some whole d e laid = all_changed (IsLaidOut geo) at.lnum (λ leb. record leb { text = leb.text ++ last_gap geo at }) lebs one d laid
  where
    one : (leb : Leb) → leb.lnum ≡ at.lnum → leb.text ≡ text_in lebs at.lnum → IsLaidOut geo leb → IsLaidOut geo (record leb { text = leb.text ++ last_gap geo at })
    one leb same text laid =
        let off : at.offs ≡ items_len leb.text = e.0 ∙ ap items_len (sym text) in
        let size = laid.fits in
        let all = gap_len geo at some in
        let top : whole_store_units geo at.offs ≤ geo.leb_size = whole_fits geo at.offs some whole (omega (arith, off, size)) in
        laid_more geo leb (last_gap geo at) (gap_nodes geo at ∙ sym (gap_standing geo at leb.lnum (items_len leb.text))) (omega (arith, off, all, top)) laid

-- ---- LEBs without a leaf
pub freed_laid : (m : Store) (lebs : List Leb) → AllByRecursion (IsLaidOut m.geo) lebs → AllByRecursion (IsLaidOut m.geo) (map (freed m) lebs)
freed_laid m [] laid = tt
freed_laid m (leb ∷ lebs) laid = (by (is_role kind.Leaf leb.role && not (has_leaf m leb.lnum) && not (is_victim_of m.moving leb.lnum)), freed_laid m lebs laid.1)
  where
    by : (b : Bool) → IsLaidOut m.geo (cond b (emptied_leb leb) leb)
    by true = record { places = refl; fits = omega arith }
    by false = laid.0

-- others keep their texts
pub freed_text : (m : Store) (role : LebKind) (k : ℕ) (lebs : List Leb) → is_role kind.Leaf role ≡ false → are_distinct (numbers_of (rows lebs)) ≡ true → has_row role (rows lebs) k ≡ true
    → text_in (map (freed m) lebs) k ≡ text_in lebs k
freed_text m role k [] away d h = absurd (false≢true h)
freed_text m role k (leb ∷ lebs) away d h = by (λ is. freed_text m role k lebs away parts.1 is) (leb.lnum == k) refl (either_of ((leb.lnum == k) && is_role role leb.role) (has_row role (rows lebs) k) h)
  where
    parts : (not (list_any (λ i. i == leb.lnum) (numbers_of (rows lebs))) ≡ true) × (are_distinct (numbers_of (rows lebs)) ≡ true)
    parts = and_parts (not (list_any (λ i. i == leb.lnum) (numbers_of (rows lebs)))) (are_distinct (numbers_of (rows lebs))) d

    first : (leb.lnum == k) ≡ true → (b : Bool) → text_in (cond b (emptied_leb leb) leb ∷ map (freed m) lebs) k ≡ cond b [] leb.text
    first e true = rw e refl
    first e false = rw e refl

    past : (leb.lnum == k) ≡ false → (b : Bool) → text_in (cond b (emptied_leb leb) leb ∷ map (freed m) lebs) k ≡ text_in (map (freed m) lebs) k
    past e true = rw e refl
    past e false = rw e refl

    test : Bool
    test = is_role kind.Leaf leb.role && not (has_leaf m leb.lnum) && not (is_victim_of m.moving leb.lnum)

    by : (has_row role (rows lebs) k ≡ true → text_in (map (freed m) lebs) k ≡ text_in lebs k) → (b : Bool) → (leb.lnum == k) ≡ b
        → (((leb.lnum == k) && is_role role leb.role) ≡ true) ⊎ (has_row role (rows lebs) k ≡ true) → text_in (map (freed m) (leb ∷ lebs)) k ≡ text_in (leb ∷ lebs) k
    by rest true e (inl is) =
        let same : role ≡ leb.role = same_role role leb.role (and_parts (leb.lnum == k) (is_role role leb.role) is).1 in
        let none : is_role kind.Leaf leb.role ≡ false = subst (λ (r : LebKind). is_role kind.Leaf r ≡ false) same away in
        rw (none, e) refl
    by rest true e (inr is) =
        let there = subst (λ (n : ℕ). list_any (λ i. i == n) (numbers_of (rows lebs)) ≡ true) (sym (eqb-true leb.lnum k e)) (has_one role (rows lebs) k is) in
        absurd (false≢true (sym (not_true (list_any (λ i. i == leb.lnum) (numbers_of (rows lebs))) parts.0) ∙ there))
    by rest false e (inl is) = absurd (false≢true (sym e ∙ (and_parts (leb.lnum == k) (is_role role leb.role) is).0))
    by rest false e (inr is) = past e test ∙ rest is ∙ rw e refl

-- ---- what was put to buds
filter_all : (q t : Placed → Bool) (ns : List Placed) → list_all q ns ≡ true → list_all q (filter t ns) ≡ true
filter_all q t [] h = refl
filter_all q t (p ∷ ns) h = let r = and_parts (q p) (list_all q ns) h in by r.0 (filter_all q t ns r.1) (t p)
  where
    by : q p ≡ true → list_all q (filter t ns) ≡ true → (b : Bool) → list_all q (cond b (p ∷ filter t ns) (filter t ns)) ≡ true
    by first rest true = and_from (q p) (list_all q (filter t ns)) first rest
    by first rest false = rest

-- a bud's nodes are in its LEB, and end in its text
pub bud_ends : (geo : RawGeometry) (lebs : List Leb) (bud : Bud) → AllByRecursion (IsLaidOut geo) lebs → IsBudIn lebs bud
    → list_all (λ p. (p.lnum == bud.lnum) && nat_le (p.offs + round_8 p.len) (items_len (text_in lebs bud.lnum))) (bud_nodes bud) ≡ true
bud_ends geo lebs bud laid b =
    let test : Placed → Bool = λ p. (p.lnum == bud.lnum) && nat_le (p.offs + round_8 p.len) (items_len (text_in lebs bud.lnum)) in
    subst (λ (ns : List Placed). list_all test ns ≡ true) b.nodes
    (filter_all test (λ p. nat_le bud.from p.offs) (leaf_nodes (text_in lebs bud.lnum))
    (subst (λ (n : ℕ). list_all (λ p. (p.lnum == bud.lnum) && nat_le (p.offs + round_8 p.len) n) (leaf_nodes (text_in lebs bud.lnum)) ≡ true) (none_plus (items_len (text_in lebs bud.lnum)))
    (standing_ends bud.lnum 0 (text_in lebs bud.lnum) (all_text geo lebs bud.lnum laid))))

all_take : {X : Type 0} (q : X → Bool) (n : ℕ) (xs : List X) → list_all q xs ≡ true → list_all q (take n xs) ≡ true
all_take q zero xs h = refl
all_take q (suc n) [] h = refl
all_take q (suc n) (x ∷ xs) h = let p = and_parts (q x) (list_all q xs) h in and_from (q x) (list_all q (take n xs)) p.0 (all_take q n xs p.1)

groups_pass : (q : Placed → Bool) (n : ℕ) (groups : List (List Carried)) → list_all q (nodes_of_groups groups) ≡ true → list_all q (nodes_of_groups (take n groups)) ≡ true
groups_pass q zero groups h = refl
groups_pass q (suc n) [] h = refl
groups_pass q (suc n) (group ∷ groups) h =
    let ns = map (λ (c : Carried). c.placed) group in
    let p = and_parts (list_all q ns) (list_all q (nodes_of_groups groups)) (sym (list_all-append q ns (nodes_of_groups groups)) ∙ h) in
    list_all-append q ns (nodes_of_groups (take n groups)) ∙ and_from (list_all q ns) (list_all q (nodes_of_groups (take n groups))) p.0 (groups_pass q n groups p.1)

nodes_append : (a b : List (List Carried)) → nodes_of_groups (a ++ b) ≡ nodes_of_groups a ++ nodes_of_groups b
nodes_append a b = flat_map-append (λ (g : List Carried). map (λ c. c.placed) g) a b

not_zero : (n i : ℕ) → n ≡ suc i → (n == 0) ≡ false
not_zero n i h = grind (arith, h)

-- a test that the nodes of all buds pass
pub groups_all : (q : Placed → Bool) (buds : List Bud) (i : ℕ) → AllByRecursion (λ bud. list_all q (bud_nodes bud) ≡ true) buds → list_all q (nodes_of_groups (groups_of_head (suc i) buds)) ≡ true
groups_all q [] i h = refl
groups_all q (bud ∷ buds) i h = by (bud.head == suc i) refl (groups_all q buds i h.1)
  where
    by : (b : Bool) → (bud.head == suc i) ≡ b → list_all q (nodes_of_groups (groups_of_head (suc i) buds)) ≡ true → list_all q (nodes_of_groups (flat_map (λ x. x.groups) (cond b (bud ∷ buds_of_head (suc i) buds) (buds_of_head (suc i) buds)))) ≡ true
    by true e rest =
        let mine : bud_nodes bud ≡ nodes_of_groups bud.groups = rw (not_zero bud.head i (eqb-true bud.head (suc i) e)) refl in
        let first : list_all q (nodes_of_groups bud.groups) ≡ true = sym (ap (list_all q) mine) ∙ h.0 in
        ap (list_all q) (nodes_append bud.groups (groups_of_head (suc i) buds))
        ∙ list_all-append q (nodes_of_groups bud.groups) (nodes_of_groups (groups_of_head (suc i) buds))
        ∙ and_from (list_all q (nodes_of_groups bud.groups)) (list_all q (nodes_of_groups (groups_of_head (suc i) buds))) first rest
    by false e rest = rest

pub copies_all : (q : Placed → Bool) (buds : List Bud) → AllByRecursion (λ bud. list_all q (bud_nodes bud) ≡ true) buds → list_all q (copies_of buds) ≡ true
copies_all q [] h = refl
copies_all q (bud ∷ buds) h = by (bud.head == 0) refl (copies_all q buds h.1)
  where
    by : (b : Bool) → (bud.head == 0) ≡ b → list_all q (copies_of buds) ≡ true → list_all q (flat_map (λ x. x.copies) (cond b (bud ∷ buds_of_head 0 buds) (buds_of_head 0 buds))) ≡ true
    by true e rest =
        let mine : bud_nodes bud ≡ bud.copies = rw e refl in
        let first : list_all q bud.copies ≡ true = sym (ap (list_all q) mine) ∙ h.0 in
        list_all-append q bud.copies (copies_of buds) ∙ and_from (list_all q bud.copies) (list_all q (copies_of buds)) first rest
    by false e rest = rest

pub synced_pass : (q : Placed → Bool) (synced : List ℕ) (buds : List Bud) (head : ℕ) → AllByRecursion (λ bud. list_all q (bud_nodes bud) ≡ true) buds → list_all q (synced_nodes synced buds head) ≡ true
synced_pass q synced buds zero h = all_take q (get_or synced 0 0) (copies_of buds) (copies_all q buds h)
synced_pass q synced buds (suc i) h = groups_pass q (get_or synced (suc i) 0) (groups_of_head (suc i) buds) (groups_all q buds i h)
