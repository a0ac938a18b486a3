-- What a sync and an inode that is dropped make of texts: last units are filled, and LEBs without a leaf have none.
use Rattle.std.proofs.Common.{◌≡◌, ◌≤◌, ◌<◌, ℕ, ◌+◌, ◌%◌, arith, Bool, true, false, List, [], ◌∷◌, ◌++◌, map, refl, sym, ap, subst, ◌∙◌, Option, Some, None}
use Rattle.std.specs.Prelude.{◌==◌, ◌&&◌, fold, nat_le}
use Rattle.std.specs.List.{AllByRecursion, list_all}
use Rattle.std.specs.Option.{option_map}
use Rattle.std.proofs.lemmas.Bool.{and_parts, eqb-true}
use Rattle.media_lpt.specs.declared.leb_kind.LebKind.TheVariants as kind
use Rattle.ubifs_base.specs.declared.raw_geometry.RawGeometry.{RawGeometry}
use Rattle.fs_model.specs.Cover.{round_8}
use Rattle.leaf_map.specs.Kept.{Placed}
use Rattle.store_model.specs.Events.{drop_inode, filled_up, last_gap, padded_head, sync, whole_store_units}
use Rattle.store_model.specs.Heads.{head_counts}
use Rattle.store_model.specs.Invariant.{AreRolesApart, AreAtBuds, IsTaking, last_bud}
use Rattle.store_model.specs.Lebs.{freed, has_role}
use Rattle.store_model.specs.Legal.{are_distinct}
use Rattle.store_model.specs.Store.{At, Bud, StoreIndex, Leb, Next, Store}
use Rattle.store_model.specs.Texts.{AreBudsIn, AreNextBudsIn, AreTexts, AreHeadsWritten, bud_nodes, ends_by, IsBudIn, IsEnd, IsLaidOut, items_len, synced_nodes, text_in}
use Rattle.store_model.proofs.LebDrops.{dropped_store}
use Rattle.store_model.proofs.LebFrees.{all_padded, filled_ends, synced_store}
use Rattle.store_model.proofs.LebPuts.{last_passes}
use Rattle.store_model.proofs.LebRows.{all_weaker, AreRows, has_row, numbers_of, role_row, Row, rows, to_rows}
use Rattle.store_model.proofs.TextBuds.{bud_lnums, buds_stay, KeepsNodes, other_head, same_nodes}
use Rattle.store_model.proofs.TextBytes.{all_padded_keep, bud_ends, freed_laid, freed_text, gap_len, padded_laid, synced_pass}
use Rattle.store_model.proofs.TextEnds.{end_stays, ends_behind, OthersStay}
use Rattle.store_model.proofs.TextItems.{len_append, lnums, row_there, same_lnums, text_more, text_other}
use Rattle.store_model.proofs.Units.{whole_covers, whole_whole}

-- ---- LEBs without a leaf are emptied
-- what is so of buds and heads stays, where their LEBs are buds
freed_keeps : (k : Store) (lebs : List Leb) (lnum : ℕ) → are_distinct (numbers_of (rows lebs)) ≡ true → has_row kind.Bud (rows lebs) lnum ≡ true → KeepsNodes lebs (map (freed k) lebs) lnum
freed_keeps k lebs lnum d bud = same_nodes lebs (map (freed k) lebs) lnum (freed_text k kind.Bud lnum lebs refl d bud)

freed_buds : (k : Store) (lebs : List Leb) (buds : List Bud) → are_distinct (numbers_of (rows lebs)) ≡ true → list_all (λ bud. has_row kind.Bud (rows lebs) bud.lnum) buds ≡ true
    → AreBudsIn lebs buds → AreBudsIn (map (freed k) lebs) buds
freed_buds k lebs buds d h b = record {
  distinct = b.distinct;
  each = buds_stay lebs (map (freed k) lebs) (has_row kind.Bud (rows lebs)) buds (λ n is. freed_keeps k lebs n d is) h b.each;
}

freed_ends : (k : Store) (geo : RawGeometry) (lebs : List Leb) (buds : List Bud) (n : ℕ) (ends : List (Option At)) → are_distinct (numbers_of (rows lebs)) ≡ true
    → list_all (λ bud. has_row kind.Bud (rows lebs) bud.lnum) buds ≡ true → AreAtBuds buds n ends → AllByRecursion (IsEnd geo lebs) ends → AllByRecursion (IsEnd geo (map (freed k) lebs)) ends
freed_ends k geo lebs buds n [] d h are all = tt
freed_ends k geo lebs buds n (None ∷ ends) d h are all = (tt, freed_ends k geo lebs buds (n + 1) ends d h are all.1)
freed_ends k geo lebs buds n (Some at ∷ ends) d h are all = (
  end_stays geo lebs (map (freed k) lebs) at (freed_text k kind.Bud at.lnum lebs refl d (last_passes (has_row kind.Bud (rows lebs)) n at.lnum buds h are.0)) all.0,
  freed_ends k geo lebs buds (n + 1) ends d h are.1 all.1,
)

-- the buds of a running commit's view are buds
pub next_role : (m : Store) (next : Next) → IsTaking m (Some next) → list_all (λ bud. has_row kind.Bud (rows m.lebs) bud.lnum) next.view.buds ≡ true
next_role m next taking = all_weaker (λ (bud : Bud). has_role kind.Bud m.lebs bud.lnum) (λ bud. has_row kind.Bud (rows m.lebs) bud.lnum) (λ bud h. sym (role_row kind.Bud m.lebs bud.lnum) ∙ h) next.view.buds taking.3

-- ---- an inode that is dropped
pub drop_texts : (m : Store) (ino : ℕ) (index : StoreIndex) → AreRolesApart m → IsTaking m m.next → AreTexts m → AreTexts (drop_inode ino index m)
drop_texts m ino index a taking t = record {
  laid = freed_laid k m.lebs t.laid;
  buds = freed_buds k m.lebs m.now.buds r.numbers r.buds t.buds;
  later = later m.next taking t.later;
  ends = freed_ends k m.geo m.lebs m.now.buds 0 m.ends r.numbers r.buds a.ends t.ends;
  written = t.written;
}
  where
    k : Store
    k = dropped_store ino index m

    r : AreRows m (rows m.lebs)
    r = to_rows m a

    later : (next : Option Next) → IsTaking m next → AreNextBudsIn m.lebs next → AreNextBudsIn (map (freed k) m.lebs) next
    later None taking b = tt
    later (Some next) taking b = freed_buds k m.lebs next.view.buds r.numbers (next_role m next taking) b

-- ---- a sync
-- padding other heads' LEBs leaves this one
padded_away : (geo : RawGeometry) (buds : List Bud) (n head lnum : ℕ) (lebs : List Leb) (ends : List (Option At)) → are_distinct (bud_lnums buds) ≡ true → head < n → last_bud buds head ≡ Some lnum → AreAtBuds buds n ends
    → text_in (fold (padded_head geo) lebs ends) lnum ≡ text_in lebs lnum
padded_away geo buds n head lnum lebs [] d past last are = refl
padded_away geo buds n head lnum lebs (None ∷ ends) d past last are = padded_away geo buds (n + 1) head lnum lebs ends d (omega (arith, past)) last are
padded_away geo buds n head lnum lebs (Some at ∷ ends) d past last are =
    padded_away geo buds (n + 1) head lnum (padded_head geo lebs (Some at)) ends d (omega (arith, past)) last are.1
    ∙ text_other at.lnum lnum (λ leb. record leb { text = leb.text ++ last_gap geo at }) (λ leb. refl) (other_head n head at.lnum lnum buds d (high_other head n past) are.0 last) lebs
  where
    high_other : (head n : ℕ) → head < n → (n == head) ≡ false
    high_other head n h = grind (arith)

record ArePadded (geo : RawGeometry) (lebs : List Leb) (ends : List (Option At)) : Type 0 where
  laid : AllByRecursion (IsLaidOut geo) (fold (padded_head geo) lebs ends)
  ends_are : AllByRecursion (IsEnd geo (fold (padded_head geo) lebs ends)) (map (option_map (filled_up geo)) ends)

all_padded_laid : (geo : RawGeometry) (rs : List Row) (buds : List Bud) (n : ℕ) (lebs : List Leb) (ends : List (Option At)) → 0 < geo.min_io → geo.leb_size % geo.min_io ≡ 0 → rows lebs ≡ rs → are_distinct (lnums lebs) ≡ true
    → list_all (λ bud. has_row kind.Bud rs bud.lnum) buds ≡ true → are_distinct (bud_lnums buds) ≡ true → AreAtBuds buds n ends → AllByRecursion (IsEnd geo lebs) ends → AllByRecursion (IsLaidOut geo) lebs
    → ArePadded geo lebs ends
all_padded_laid geo rs buds n lebs [] some whole same d h e are all laid = record { laid = laid; ends_are = tt }
all_padded_laid geo rs buds n lebs (None ∷ ends) some whole same d h e are all laid =
    let rest = all_padded_laid geo rs buds (n + 1) lebs ends some whole same d h e are all.1 laid in
    record { laid = rest.laid; ends_are = (tt, rest.ends_are) }
all_padded_laid geo rs buds n lebs (Some at ∷ ends) some whole same d h e are all laid =
    let rest = all_padded_laid geo rs buds (n + 1) new ends some whole (padded_same ∙ same) (ap are_distinct (same_lnums at.lnum (λ leb. record leb { text = leb.text ++ last_gap geo at }) (λ leb. refl) lebs) ∙ d) h e are.1
    (ends_behind geo lebs new buds (n + 1) n ends stay (omega arith) are.1 all.1) (padded_laid geo lebs (Some at) some whole d all.0 laid) in
    record { laid = rest.laid; ends_are = ((off, whole_whole geo at.offs some), rest.ends_are) }
  where
    new : List Leb
    new = padded_head geo lebs (Some at)

    padded_same : rows new ≡ rows lebs
    padded_same = all_padded geo lebs (Some at ∷ [])

    stay : OthersStay buds n lebs new
    stay i l away last = text_other at.lnum l (λ leb. record leb { text = leb.text ++ last_gap geo at }) (λ leb. refl) (other_head n i at.lnum l buds e away are.0 last) lebs

    bud : has_row kind.Bud (rows lebs) at.lnum ≡ true
    bud = subst (λ (z : List Row). has_row kind.Bud z at.lnum ≡ true) (sym same) (last_passes (has_row kind.Bud rs) n at.lnum buds h are.0)

    off : whole_store_units geo at.offs ≡ items_len (text_in (fold (padded_head geo) lebs (Some at ∷ ends)) at.lnum)
    off =
        sym (gap_len geo at some)
        ∙ ap (λ (k : ℕ). k + items_len (last_gap geo at)) all.0.0
        ∙ sym (len_append (text_in lebs at.lnum) (last_gap geo at))
        ∙ sym (ap items_len (text_more at.lnum (last_gap geo at) lebs (row_there kind.Bud at.lnum lebs bud)))
        ∙ sym (ap items_len (padded_away geo buds (n + 1) n at.lnum new ends e (omega arith) are.0 are.1))

-- what a bud has is written, if its LEB is
ends_whole : (lnum other end whole : ℕ) (p : Placed) → ((other == lnum) ≡ true → end ≤ whole) → ((p.lnum == other) && nat_le (p.offs + round_8 p.len) end) ≡ true → ends_by lnum whole p ≡ true
ends_whole lnum other end whole p low h =
    let q = and_parts (p.lnum == other) (nat_le (p.offs + round_8 p.len) end) h in
    by (other == lnum) refl (ap (λ (n : ℕ). n == lnum) (eqb-true p.lnum other q.0)) q.1
  where
    reaches : (e : ℕ) → nat_le e end ≡ true → end ≤ whole → nat_le e whole ≡ true
    reaches e h more = grind (arith, h, more)

    by : (b : Bool) → (other == lnum) ≡ b → (p.lnum == lnum) ≡ (other == lnum) → nat_le (p.offs + round_8 p.len) end ≡ true → ends_by lnum whole p ≡ true
    by true e same h = rw (same ∙ e) (reaches (p.offs + round_8 p.len) h (low e))
    by false e same h = rw (same ∙ e) refl

buds_written : (geo : RawGeometry) (lebs : List Leb) (at : At) (buds : List Bud) → 0 < geo.min_io → AllByRecursion (IsLaidOut geo) lebs → IsEnd geo lebs (Some at) → AllByRecursion (IsBudIn lebs) buds
    → AllByRecursion (λ bud. list_all (ends_by at.lnum (whole_store_units geo at.offs)) (bud_nodes bud) ≡ true) buds
buds_written geo lebs at [] some laid e b = tt
buds_written geo lebs at (bud ∷ buds) some laid e b = (
  all_weaker (λ (p : Placed). (p.lnum == bud.lnum) && nat_le (p.offs + round_8 p.len) (items_len (text_in lebs bud.lnum))) (ends_by at.lnum (whole_store_units geo at.offs))
      (λ p h. ends_whole at.lnum bud.lnum (items_len (text_in lebs bud.lnum)) (whole_store_units geo at.offs) p low h) (bud_nodes bud) (bud_ends geo lebs bud laid b.0),
  buds_written geo lebs at buds some laid e b.1,
)
  where
    low : (bud.lnum == at.lnum) ≡ true → items_len (text_in lebs bud.lnum) ≤ whole_store_units geo at.offs
    low same =
        let is : items_len (text_in lebs bud.lnum) ≡ at.offs = ap (λ (n : ℕ). items_len (text_in lebs n)) (eqb-true bud.lnum at.lnum same) ∙ sym e.0 in
        let covers = whole_covers geo at.offs some in
        omega (arith, is, covers)

all_written : (geo : RawGeometry) (lebs : List Leb) (synced : List ℕ) (buds : List Bud) (n : ℕ) (ends : List (Option At)) → 0 < geo.min_io → AllByRecursion (IsLaidOut geo) lebs → AllByRecursion (IsBudIn lebs) buds
    → AllByRecursion (IsEnd geo lebs) ends → AreHeadsWritten (synced_nodes synced buds) n (map (option_map (filled_up geo)) ends)
all_written geo lebs synced buds n [] some laid b all = tt
all_written geo lebs synced buds n (None ∷ ends) some laid b all = all_written geo lebs synced buds (n + 1) ends some laid b all.1
all_written geo lebs synced buds n (Some at ∷ ends) some laid b all = (
  synced_pass (ends_by at.lnum (whole_store_units geo at.offs)) synced buds n (buds_written geo lebs at buds some laid all.0 b),
  all_written geo lebs synced buds (n + 1) ends some laid b all.1,
)

pub sync_texts : (m : Store) → 0 < m.geo.min_io → m.geo.leb_size % m.geo.min_io ≡ 0 → AreRolesApart m → IsTaking m m.next → AreTexts m → AreTexts (sync m)
sync_texts m some whole a taking t = record {
  laid = freed_laid k lebs filled.laid;
  buds = freed_buds k lebs m.now.buds numbers buds_are (padded_buds m.now.buds t.buds);
  later = later m.next taking t.later;
  ends = freed_ends k m.geo lebs m.now.buds 0 k.ends numbers buds_are (filled_ends m.geo m.now.buds 0 m.ends a.ends) filled.ends_are;
  written = all_written m.geo m.lebs (head_counts m.now.buds) m.now.buds 0 m.ends some t.laid t.buds.each t.ends;
}
  where
    k : Store
    k = synced_store m

    lebs : List Leb
    lebs = fold (padded_head m.geo) m.lebs m.ends

    r : AreRows m (rows m.lebs)
    r = to_rows m a

    same : rows lebs ≡ rows m.lebs
    same = all_padded m.geo m.lebs m.ends

    numbers : are_distinct (numbers_of (rows lebs)) ≡ true
    numbers = ap (λ (z : List Row). are_distinct (numbers_of z)) same ∙ r.numbers

    as_rows : (buds : List Bud) → list_all (λ bud. has_row kind.Bud (rows m.lebs) bud.lnum) buds ≡ true → list_all (λ bud. has_row kind.Bud (rows lebs) bud.lnum) buds ≡ true
    as_rows buds h = subst (λ (z : List Row). list_all (λ bud. has_row kind.Bud z bud.lnum) buds ≡ true) (sym same) h

    buds_are : list_all (λ bud. has_row kind.Bud (rows lebs) bud.lnum) m.now.buds ≡ true
    buds_are = as_rows m.now.buds r.buds

    filled : ArePadded m.geo m.lebs m.ends
    filled = all_padded_laid m.geo (rows m.lebs) m.now.buds 0 m.lebs m.ends some whole refl a.numbers r.buds t.buds.distinct a.ends t.ends t.laid

    every : (buds : List Bud) → list_all (λ bud. true) buds ≡ true
    every [] = refl
    every (bud ∷ buds) = every buds

    padded_buds : (buds : List Bud) → AreBudsIn m.lebs buds → AreBudsIn lebs buds
    padded_buds buds b = record { distinct = b.distinct; each = buds_stay m.lebs lebs (λ n. true) buds (λ n _. all_padded_keep m.geo m.lebs m.ends n) (every buds) b.each }

    later : (next : Option Next) → IsTaking m next → AreNextBudsIn m.lebs next → AreNextBudsIn (map (freed k) lebs) next
    later None taking b = tt
    later (Some next) taking b = freed_buds k lebs next.view.buds numbers (as_rows next.view.buds (next_role m next taking)) (padded_buds next.view.buds b)
