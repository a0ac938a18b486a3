-- A put stands in the texts: its nodes behind those of its head's LEB, and in the last buds of its head.
use Rattle.std.proofs.Common.{◌≡◌, ◌≤◌, ◌<◌, ℕ, zero, suc, ◌+◌, arith, true, List, [], ◌∷◌, ◌++◌, length, map, refl, sym, ap, subst, ◌∙◌, append-nil, Option, Some, None, ◌⊎◌, inl, inr}
use Rattle.std.specs.Prelude.{fold, nat_le}
use Rattle.std.specs.List.{AllByRecursion, list_all}
use Rattle.std.specs.Option.{option_map}
use Rattle.std.proofs.lemmas.Bool.{and_from, eqb-true}
use Rattle.std.proofs.lemmas.Grind.{flat_map-append}
use Rattle.leaf_map.specs.Kept.{Placed}
use Rattle.media_lpt.specs.declared.leb_kind.LebKind.TheVariants as kind
use Rattle.store_model.specs.Events.{after_part, credit, end_at, granted, in_next, nodes_len, paid, Part, Payment, put, Putting, with_items}
use Rattle.store_model.specs.Fits.{nodes_of_groups}
use Rattle.store_model.specs.Heads.{with_head_group}
use Rattle.store_model.specs.Invariant.{AreRolesApart, HasNumbers, HasSince, last_bud}
use Rattle.store_model.specs.Legal.{AreLegalParts, FitHead, IsLegalPart, StandFrom}
use Rattle.store_model.specs.Store.{At, Bud, Carried, leaf, Leb, Next, Store}
use Rattle.store_model.specs.Texts.{AreNextBudsIn, AreTexts, bud_nodes, IsLaidOut, items_len, synced_nodes, text_in}
use Rattle.store_model.proofs.LebPuts.{end_bud, head_role, part_apart}
use Rattle.store_model.proofs.PutNumbers.{part_numbers}
use Rattle.store_model.proofs.Since.{part_since}
use Rattle.store_model.proofs.TextBuds.{Adds, all_grow, PutsTo}
use Rattle.store_model.proofs.TextEnds.{copies_synced, end_of, ends_grow, synced_put, written_grows}
use Rattle.store_model.proofs.TextItems.{all_changed, laid_more, leaves_map, len_map, row_there, standing_map, text_more, text_other}

-- ---- nodes at the end of a head
further : (low offs a : ℕ) → low ≤ offs → low ≤ offs + a
further low offs a h = omega (arith, h)

reaches : (low offs at : ℕ) → low ≤ offs → at ≡ offs → nat_le low at ≡ true
reaches low offs at h same = grind (arith, h, same)

pub stand_behind : (low lnum offs : ℕ) (nodes : List Placed) → low ≤ offs → StandFrom lnum offs nodes → list_all (λ p. nat_le low p.offs) nodes ≡ true
stand_behind low lnum offs [] more s = refl
stand_behind low lnum offs (p ∷ nodes) more s =
    and_from (nat_le low p.offs) (list_all (λ p. nat_le low p.offs) nodes) (reaches low offs p.offs more s.1) (stand_behind low lnum (offs + nodes_len (p ∷ [])) nodes (further low offs (nodes_len (p ∷ [])) more) s.3)

pub adds_items : (m : Store) (head : ℕ) (at : At) (nodes : List Placed) → AreRolesApart m → AreTexts m → end_at m.ends head ≡ Some at → StandFrom at.lnum at.offs nodes
    → Adds m.lebs (with_items at.lnum (map leaf nodes) m.lebs) at.lnum nodes
adds_items m head at nodes a t e stand =
    let off = (end_of m.geo m.lebs head m.ends at t.ends e).0 in
    record {
      here = text_more at.lnum (map leaf nodes) m.lebs (row_there kind.Bud at.lnum m.lebs (head_role m head at a e));
      away = λ k other. text_other at.lnum k (λ leb. record leb { text = leb.text ++ map leaf nodes }) (λ leb. refl) other m.lebs;
      behind = stand_behind (items_len (text_in m.lebs at.lnum)) at.lnum at.offs nodes (omega (arith, off)) stand;
    }

pub laid_items : (m : Store) (head : ℕ) (at : At) (nodes : List Placed) → AreRolesApart m → AreTexts m → end_at m.ends head ≡ Some at → StandFrom at.lnum at.offs nodes → at.offs + nodes_len nodes ≤ m.geo.leb_size
    → AllByRecursion (IsLaidOut m.geo) (with_items at.lnum (map leaf nodes) m.lebs)
laid_items m head at nodes a t e stand room = all_changed (IsLaidOut m.geo) at.lnum (λ leb. record leb { text = leb.text ++ map leaf nodes }) m.lebs one a.numbers t.laid
  where
    one : (leb : Leb) → leb.lnum ≡ at.lnum → leb.text ≡ text_in m.lebs at.lnum → IsLaidOut m.geo leb → IsLaidOut m.geo (record leb { text = leb.text ++ map leaf nodes })
    one leb same text laid = laid_more m.geo leb (map leaf nodes) (leaves_map nodes ∙ sym (standing_map leb.lnum (items_len leb.text) nodes there)) fits laid
      where
        off : at.offs ≡ items_len leb.text
        off = (end_of m.geo m.lebs head m.ends at t.ends e).0 ∙ ap items_len (sym text)

        there : StandFrom leb.lnum (items_len leb.text) nodes
        there = subst (λ (n : ℕ). StandFrom leb.lnum n nodes) off (subst (λ (n : ℕ). StandFrom n at.offs nodes) (sym same) stand)

        fits : items_len leb.text + items_len (map leaf nodes) ≤ m.geo.leb_size
        fits = let long = len_map nodes in omega (arith, room, off, long)

-- ---- a group
nodes_more : (groups : List (List Carried)) (group : List Carried) → nodes_of_groups (groups ++ group ∷ []) ≡ nodes_of_groups groups ++ map (λ c. c.placed) group
nodes_more groups group =
    flat_map-append (λ (g : List Carried). map (λ c. c.placed) g) groups (group ∷ [])
    ∙ ap (λ (ns : List Placed). nodes_of_groups groups ++ ns) (append-nil (map (λ c. c.placed) group))

group_puts : (head : ℕ) (group : List Carried) → (head ≡ 1) ⊎ (head ≡ 2) → PutsTo head (λ bud. record bud { groups = bud.groups ++ group ∷ [] }) (map (λ c. c.placed) group)
group_puts head group is = record { lnum = λ bud. refl; from = λ bud. refl; more = λ bud mine. more bud (eqb-true bud.head head mine) is }
  where
    more : (bud : Bud) → bud.head ≡ head → (head ≡ 1) ⊎ (head ≡ 2) → bud_nodes (record bud { groups = bud.groups ++ group ∷ [] }) ≡ bud_nodes bud ++ map (λ c. c.placed) group
    more bud same (inl one) = rw (same, one) (nodes_more bud.groups group)
    more bud same (inr two) = rw (same, two) (nodes_more bud.groups group)

next_buds : (m : Store) (part : Part) (at : At) (next : Option Next) → (part.head ≡ 1) ⊎ (part.head ≡ 2) → end_at m.ends part.head ≡ Some at → Adds m.lebs (after_part m part).lebs at.lnum (map (λ c. c.placed) part.group)
    → HasSince m next → AreNextBudsIn m.lebs next
    → AreNextBudsIn (after_part m part).lebs (option_map (in_next (with_head_group part.head part.group) (length part.group)) next)
next_buds m part at None is e adds since b = tt
next_buds m part at (Some next) is e adds since b =
    all_grow m.lebs (after_part m part).lebs part.head at.lnum (λ bud. record bud { groups = bud.groups ++ part.group ∷ [] }) (map (λ c. c.placed) part.group) next.view.buds adds (group_puts part.head part.group is)
    (end_bud next.view.buds 0 part.head part.head m.ends at (omega arith) since.ends e) b

pub part_texts : (m : Store) (part : Part) → IsLegalPart m part → 0 < m.geo.min_io → AreRolesApart m → HasSince m m.next → HasNumbers m → AreTexts m → AreTexts (after_part m part)
part_texts m part is some a since n t = by (end_at m.ends part.head) refl is.fits
  where
    k : Store
    k = after_part m part

    nodes : List Placed
    nodes = map (λ c. c.placed) part.group

    synced : (i : ℕ) → synced_nodes k.synced k.now.buds i ≡ synced_nodes m.synced m.now.buds i
    synced zero = copies_synced m.synced m.now.buds part.head part.group
    synced (suc i) = synced_put m.synced m.now.buds part.head part.group i n.synced

    by : (o : Option At) → end_at m.ends part.head ≡ o → FitHead m o nodes → AreTexts k
    by None e fits = absurd fits
    by (Some at) e fits = record {
      laid = subst (AllByRecursion (IsLaidOut m.geo)) (sym lebs) (laid_items m part.head at nodes a t e fits.0 fits.1);
      buds = all_grow m.lebs k.lebs part.head at.lnum (λ bud. record bud { groups = bud.groups ++ part.group ∷ [] }) nodes m.now.buds adds (group_puts part.head part.group is.head) last t.buds;
      later = next_buds m part at m.next is.head e adds since t.later;
      ends = ends_grow m.geo m.lebs k.lebs m.now.buds part.head at.lnum nodes m.ends adds t.buds.distinct last a.ends t.ends;
      written = written_grows m (synced_nodes m.synced m.now.buds) (synced_nodes k.synced k.now.buds) 0 part.head (nodes_len nodes) m.ends some synced t.ends t.written;
    }
      where
        lebs : k.lebs ≡ with_items at.lnum (map leaf nodes) m.lebs
        lebs = rw e refl

        adds : Adds m.lebs k.lebs at.lnum nodes
        adds = subst (λ (z : List Leb). Adds m.lebs z at.lnum nodes) (sym lebs) (adds_items m part.head at nodes a t e fits.0)

        last : last_bud m.now.buds part.head ≡ Some at.lnum
        last = end_bud m.now.buds 0 part.head part.head m.ends at (omega arith) a.ends e

parts_texts : (parts : List Part) (m : Store) → AreLegalParts m parts → 0 < m.geo.min_io → AreRolesApart m → HasSince m m.next → HasNumbers m → AreTexts m → AreTexts (fold after_part m parts)
parts_texts [] m are some a since n t = t
parts_texts (part ∷ parts) m are some a since n t =
    parts_texts parts (after_part m part) are.1 some (part_apart m part are.0 a) (part_since m part are.0 a since) (part_numbers m part are.0.head are.0.numbers n) (part_texts m part are.0 some a since n t)

pub put_texts : (m : Store) (p : Putting) → AreLegalParts m p.parts → 0 < m.geo.min_io → AreRolesApart m → HasSince m m.next → HasNumbers m → AreTexts m → AreTexts (put p m)
put_texts m p are some a since n t = by p.payment (parts_texts p.parts m are some a since n t)
  where
    end : Store
    end = fold after_part m p.parts

    by : (payment : Payment) → AreTexts end → AreTexts (record (paid payment end) { index = p.index })
    by credit t = record { laid = t.laid; buds = t.buds; later = t.later; ends = t.ends; written = t.written }
    by granted t = record { laid = t.laid; buds = t.buds; later = t.later; ends = t.ends; written = t.written }
