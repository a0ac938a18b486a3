-- What a LEB that is opened makes of texts: it has none, and the head's LEB before has its last unit filled.
use Rattle.std.proofs.Common.{◌≡◌, ◌<◌, ℕ, zero, suc, ◌+◌, ◌*◌, ◌/◌, ◌%◌, arith, Bool, true, false, cond, not, List, [], ◌∷◌, ◌++◌, take, refl, sym, ap, subst, ◌∙◌, Option, Some, None}
use Rattle.std.specs.Prelude.{◌==◌, ◌&&◌, ◌||◌, get_or, nat_le}
use Rattle.std.specs.List.{AllByRecursion, list_all, list_any}
use Rattle.std.specs.Option.{option_map}
use Rattle.std.proofs.lemmas.Bool.{and_from, and_parts, eqb-true, false≢true}
use Rattle.std.proofs.Math.Nat.{zero-div}
use Rattle.media_lpt.specs.declared.leb_kind.LebKind.TheVariants as kind
use Rattle.fs_model.specs.Cover.{round_8}
use Rattle.leaf_map.specs.Kept.{Placed}
use Rattle.store_model.specs.Events.{changed_end, end_at, in_next, last_gap, new_bud, open_leb, padded_head}
use Rattle.store_model.specs.Fits.{nodes_of_groups}
use Rattle.store_model.specs.Invariant.{AreRolesApart, IsTaking}
use Rattle.store_model.specs.Lebs.{changed_leb, has_role}
use Rattle.store_model.specs.Legal.{are_distinct}
use Rattle.store_model.specs.Store.{At, Bud, Carried, Leb, Next, Store}
use Rattle.store_model.specs.Texts.{AreBudsIn, AreNextBudsIn, AreTexts, AreHeadsWritten, bud_nodes, ends_by, IsBudIn, IsEnd, IsLaidOut, items_len, synced_nodes, text_in}
use Rattle.store_model.proofs.LebPuts.{end_bud, last_passes, other_leb}
use Rattle.store_model.proofs.LebRows.{all_weaker, AreRows, has_row, role_row, rows, to_rows}
use Rattle.store_model.proofs.Opens.{copies_open, groups_open}
use Rattle.store_model.proofs.RecoveryCopies.{not_true}
use Rattle.store_model.proofs.TextBuds.{bud_lnums, buds_stay, KeepsNodes, other_head, same_nodes, turned}
use Rattle.store_model.proofs.TextBytes.{bud_ends, keeps_then, padded_keeps, padded_laid, synced_pass}
use Rattle.store_model.proofs.TextEnds.{end_of, ends_change, OthersStay, same_written}
use Rattle.store_model.proofs.TextItems.{all_changed, emptied_text, lnums, same_lnums, text_other}

abbrev pub opened : Leb → Leb
opened leb = record leb { role = kind.Bud; text = [] }

-- ---- buds
each_append : {X : Type 0} (P : X → Type 0) (xs : List X) (x : X) → AllByRecursion P xs → P x → AllByRecursion P (xs ++ x ∷ [])
each_append P [] x h one = (one, tt)
each_append P (first ∷ xs) x h one = (h.0, each_append P xs x h.1 one)

none_more : (n lnum : ℕ) (buds : List Bud) (head : ℕ) → list_any (λ k. k == n) (bud_lnums buds) ≡ false → (n == lnum) ≡ false → list_any (λ k. k == n) (bud_lnums (buds ++ new_bud head lnum 0 ∷ [])) ≡ false
none_more n lnum [] head h away = rw (turned n lnum away) refl
none_more n lnum (bud ∷ buds) head h away = by (λ g. none_more n lnum buds head g away) (bud.lnum == n) h
  where
    by : (list_any (λ k. k == n) (bud_lnums buds) ≡ false → list_any (λ k. k == n) (bud_lnums (buds ++ new_bud head lnum 0 ∷ [])) ≡ false) → (b : Bool) → (b || list_any (λ k. k == n) (bud_lnums buds)) ≡ false → (b || list_any (λ k. k == n) (bud_lnums (buds ++ new_bud head lnum 0 ∷ []))) ≡ false
    by rest true h = absurd (false≢true (sym h))
    by rest false h = rest h

distinct_more : (lnum head : ℕ) (buds : List Bud) → list_all (λ bud. not (lnum == bud.lnum)) buds ≡ true → are_distinct (bud_lnums buds) ≡ true → are_distinct (bud_lnums (buds ++ new_bud head lnum 0 ∷ [])) ≡ true
distinct_more lnum head [] h d = refl
distinct_more lnum head (bud ∷ buds) h d =
    let p = and_parts (not (lnum == bud.lnum)) (list_all (λ bud. not (lnum == bud.lnum)) buds) h in
    let q = and_parts (not (list_any (λ k. k == bud.lnum) (bud_lnums buds))) (are_distinct (bud_lnums buds)) d in
    let away = turned lnum bud.lnum (not_true (lnum == bud.lnum) p.0) in
    let none = none_more bud.lnum lnum buds head (not_true (list_any (λ k. k == bud.lnum) (bud_lnums buds)) q.0) away in
    and_from (not (list_any (λ k. k == bud.lnum) (bud_lnums (buds ++ new_bud head lnum 0 ∷ [])))) (are_distinct (bud_lnums (buds ++ new_bud head lnum 0 ∷ []))) (ap not none) (distinct_more lnum head buds p.1 q.1)

new_in : (lebs : List Leb) (head lnum : ℕ) → text_in lebs lnum ≡ [] → IsBudIn lebs (new_bud head lnum 0)
new_in lebs head lnum none = record { nodes = rw none (by (head == 0)); from = omega arith }
  where
    by : (b : Bool) → [] ≡ cond {A = List Placed} b [] []
    by true = refl
    by false = refl

-- ---- ends
written_change : (nodes : ℕ → List Placed) (n j head : ℕ) (at : At) (ends : List (Option At)) → head ≡ n + j → list_all (ends_by at.lnum at.written) (nodes head) ≡ true → AreHeadsWritten nodes n ends
    → AreHeadsWritten nodes n (changed_end j (λ old. Some at) ends)
written_change nodes n j head at [] same one w = tt
written_change nodes n zero head at (None ∷ ends) same one w = let is : head ≡ n = omega (arith, same) in (subst (λ (i : ℕ). list_all (ends_by at.lnum at.written) (nodes i) ≡ true) is one, w)
written_change nodes n zero head at (Some old ∷ ends) same one w = let is : head ≡ n = omega (arith, same) in (subst (λ (i : ℕ). list_all (ends_by at.lnum at.written) (nodes i) ≡ true) is one, w.1)
written_change nodes n (suc j) head at (None ∷ ends) same one w = written_change nodes (n + 1) j head at ends (omega (arith, same)) one w
written_change nodes n (suc j) head at (Some old ∷ ends) same one w = (w.0, written_change nodes (n + 1) j head at ends (omega (arith, same)) one w.1)

-- of nodes in other LEBs nothing has to be written
elsewhere : (lnum other end : ℕ) (p : Placed) → (lnum == other) ≡ false → ((p.lnum == other) && nat_le (p.offs + round_8 p.len) end) ≡ true → ends_by lnum 0 p ≡ true
elsewhere lnum other end p away h =
    let there = eqb-true p.lnum other (and_parts (p.lnum == other) (nat_le (p.offs + round_8 p.len) end) h).0 in
    rw (subst (λ (n : ℕ). (n == lnum) ≡ false) (sym there) (turned lnum other away)) refl

-- ---- the event
pub open_texts : (m : Store) (head lnum : ℕ) → has_role kind.Free m.lebs lnum ≡ true → 0 < m.geo.min_io → m.geo.leb_size % m.geo.min_io ≡ 0 → AreRolesApart m → IsTaking m m.next → AreTexts m → AreTexts (open_leb head lnum m)
open_texts m head lnum empty some whole a taking t = record {
  laid = all_changed (IsLaidOut m.geo) lnum opened before (λ leb same text laid. record { places = refl; fits = omega arith }) (numbers (end_at m.ends head))
      (padded_laid m.geo m.lebs (end_at m.ends head) some whole a.numbers (end_is (end_at m.ends head) refl) t.laid);
  buds = more m.now.buds (bud_others m.now.buds r.buds) t.buds;
  later = next_more m.next taking t.later;
  ends = ends_change m.geo m.lebs new m.now.buds 0 head head (λ at. Some fresh) m.ends (omega arith) stay (λ at is e. (sym (ap items_len none), zero_written)) a.ends t.ends;
  written = same_written (synced_nodes m.synced m.now.buds) (synced_nodes m.synced (m.now.buds ++ new_bud head lnum 0 ∷ [])) 0 (changed_end head (λ at. Some fresh) m.ends) same
      (written_change (synced_nodes m.synced m.now.buds) 0 head head fresh m.ends (omega arith) (synced_pass (ends_by lnum 0) m.synced m.now.buds head (away_all m.now.buds (bud_others m.now.buds r.buds) t.buds.each)) t.written);
}
  where
    fresh : At
    fresh = record { lnum = lnum; offs = 0; written = 0 }

    before : List Leb
    before = padded_head m.geo m.lebs (end_at m.ends head)

    new : List Leb
    new = changed_leb lnum opened before

    r : AreRows m (rows m.lebs)
    r = to_rows m a

    free : has_row kind.Free (rows m.lebs) lnum ≡ true
    free = sym (role_row kind.Free m.lebs lnum) ∙ empty

    numbers : (at : Option At) → are_distinct (lnums (padded_head m.geo m.lebs at)) ≡ true
    numbers None = a.numbers
    numbers (Some at) = ap are_distinct (same_lnums at.lnum (λ leb. record leb { text = leb.text ++ last_gap m.geo at }) (λ leb. refl) m.lebs) ∙ a.numbers

    end_is : (at : Option At) → end_at m.ends head ≡ at → IsEnd m.geo m.lebs at
    end_is None e = tt
    end_is (Some at) e = end_of m.geo m.lebs head m.ends at t.ends e

    none : text_in new lnum ≡ []
    none = emptied_text lnum opened (λ leb. refl) (λ leb. refl) before

    zero_written : 0 ≡ 0 / m.geo.min_io * m.geo.min_io
    zero_written = let none : 0 ≡ 0 * m.geo.min_io = omega arith in none ∙ sym (ap (λ (n : ℕ). n * m.geo.min_io) (zero-div m.geo.min_io))

    same : (i : ℕ) → synced_nodes m.synced (m.now.buds ++ new_bud head lnum 0 ∷ []) i ≡ synced_nodes m.synced m.now.buds i
    same zero = ap (λ (cs : List Placed). take (get_or m.synced 0 0) cs) (copies_open head lnum m.now.buds)
    same (suc i) = ap (λ (gs : List (List Carried)). nodes_of_groups (take (get_or m.synced (suc i) 0) gs)) (groups_open (suc i) head lnum m.now.buds)

    -- the LEB was none of the buds'
    bud_others : (buds : List Bud) → list_all (λ bud. has_row kind.Bud (rows m.lebs) bud.lnum) buds ≡ true → list_all (λ bud. not (lnum == bud.lnum)) buds ≡ true
    bud_others buds h = all_weaker (λ (bud : Bud). has_row kind.Bud (rows m.lebs) bud.lnum) (λ bud. not (lnum == bud.lnum)) (λ bud is. ap not (other_leb (rows m.lebs) lnum bud.lnum kind.Free kind.Bud r.numbers free is refl)) buds h

    keeps : (k : ℕ) → not (lnum == k) ≡ true → KeepsNodes m.lebs new k
    keeps k away = keeps_then m.lebs before new k (padded_keeps m.geo m.lebs (end_at m.ends head) k)
        (same_nodes before new k (text_other lnum k opened (λ leb. refl) (not_true (lnum == k) away) before))

    more : (buds : List Bud) → list_all (λ bud. not (lnum == bud.lnum)) buds ≡ true → AreBudsIn m.lebs buds → AreBudsIn new (buds ++ new_bud head lnum 0 ∷ [])
    more buds others b = record {
      distinct = distinct_more lnum head buds others b.distinct;
      each = each_append (IsBudIn new) buds (new_bud head lnum 0) (buds_stay m.lebs new (λ k. not (lnum == k)) buds keeps others b.each) (new_in new head lnum none);
    }

    next_more : (next : Option Next) → IsTaking m next → AreNextBudsIn m.lebs next → AreNextBudsIn new (option_map (in_next (λ buds. buds ++ new_bud head lnum 0 ∷ []) 0) next)
    next_more None taking b = tt
    next_more (Some next) taking b = more next.view.buds (bud_others next.view.buds (all_weaker (λ (bud : Bud). has_role kind.Bud m.lebs bud.lnum) (λ bud. has_row kind.Bud (rows m.lebs) bud.lnum) (λ bud h. sym (role_row kind.Bud m.lebs bud.lnum) ∙ h) next.view.buds taking.3)) b

    away_all : (buds : List Bud) → list_all (λ bud. not (lnum == bud.lnum)) buds ≡ true → AllByRecursion (IsBudIn m.lebs) buds → AllByRecursion (λ bud. list_all (ends_by lnum 0) (bud_nodes bud) ≡ true) buds
    away_all [] others b = tt
    away_all (bud ∷ buds) others b =
        let p = and_parts (not (lnum == bud.lnum)) (list_all (λ bud. not (lnum == bud.lnum)) buds) others in
        let end = items_len (text_in m.lebs bud.lnum) in (
          all_weaker (λ (q : Placed). (q.lnum == bud.lnum) && nat_le (q.offs + round_8 q.len) end) (ends_by lnum 0) (λ q h. elsewhere lnum bud.lnum end q (not_true (lnum == bud.lnum) p.0) h) (bud_nodes bud) (bud_ends m.geo m.lebs bud t.laid b.0),
          away_all buds p.1 b.1,
        )

    -- other heads' LEBs are neither this one nor the head's before
    stay : OthersStay m.now.buds head m.lebs new
    stay i l other e =
        let bud : has_row kind.Bud (rows m.lebs) l ≡ true = last_passes (has_row kind.Bud (rows m.lebs)) i l m.now.buds r.buds e in
        text_other lnum l opened (λ leb. refl) (other_leb (rows m.lebs) lnum l kind.Free kind.Bud r.numbers free bud refl) before ∙ apart (end_at m.ends head) refl
      where
        apart : (at : Option At) → end_at m.ends head ≡ at → text_in (padded_head m.geo m.lebs at) l ≡ text_in m.lebs l
        apart None at = refl
        apart (Some at) at_is =
            let last = end_bud m.now.buds 0 head head m.ends at (omega arith) a.ends at_is in
            text_other at.lnum l (λ leb. record leb { text = leb.text ++ last_gap m.geo at }) (λ leb. refl) (other_head head i at.lnum l m.now.buds t.buds.distinct other last e) m.lebs
