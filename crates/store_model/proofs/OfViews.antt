-- Live and held leaves are a view's, or stand in its buds: what a put, an opened LEB, a sync and a drop make of them.
use Rattle.std.proofs.Common.{◌≡◌, ◌≤◌, ◌<◌, ℕ, ◌+◌, arith, Bool, true, false, cond, not, List, [], ◌∷◌, ◌++◌, length, map, refl, sym, ap, subst, ◌∙◌, inl, inr, Option, Some, None}
use Rattle.std.specs.Prelude.{◌==◌, ◌&&◌, filter, fold, nat_le}
use Rattle.std.specs.List.{AllByRecursion, list_any}
use Rattle.std.specs.Option.{option_map, option_or}
use Rattle.std.proofs.lemmas.Bool.{and_from, eq-eqb}
use Rattle.std.proofs.lemmas.List.{map-append}
use Rattle.std.proofs.lemmas.List.Folds.{list_any-append}
use Rattle.fs_model.specs.declared.change.Change.TheVariants.{DropInode}
use Rattle.index_tree.specs.Order.{leaf_rank}
use Rattle.index_tree.specs.declared.leaf.Leaf.{Leaf}
use Rattle.leaf_map.specs.After.{is_gone, is_idle, is_set, put_leaf}
use Rattle.leaf_map.specs.Kept.{Kept, kept_at}
use Rattle.leaf_map.specs.Parts.{in_bud, Named}
use Rattle.store_model.specs.Events.{after_change, after_part, credit, drop_inode, end_at, granted, Held, in_next, new_bud, nodes_len, open_leb, paid, Part, Payment, put, Putting, sync}
use Rattle.store_model.specs.Events.{is_synced_orphan}
use Rattle.store_model.specs.Fits.{named_by_log}
use Rattle.store_model.specs.Heads.{has_bud, with_head_group}
use Rattle.store_model.specs.Invariant.{AreRolesApart, AreOfViews, HasNumbers, HasSince, IsOfNext, IsOfView, last_bud}
use Rattle.store_model.specs.Legal.{AreLegalParts, FitHead, IsLegalPart, StandFrom}
use Rattle.store_model.specs.Store.{At, Bud, Carried, StoreIndex, Leb, Next, Store, View}
use Rattle.store_model.specs.Texts.{AreNextBudsIn, AreTexts, IsBudIn, items_len, text_in}
use Rattle.store_model.proofs.LebPuts.{end_bud, part_apart}
use Rattle.store_model.proofs.PutNumbers.{part_numbers}
use Rattle.store_model.proofs.RecoveryOrder.{or_left, or_right}
use Rattle.store_model.proofs.Since.{part_since}
use Rattle.store_model.proofs.TextEnds.{end_of}
use Rattle.store_model.proofs.TextPuts.{part_texts}

-- ---- what is so of each leaf
pub each_filter : (P : Kept → Type 0) (t : Kept → Bool) (xs : List Kept) → AllByRecursion P xs → AllByRecursion P (filter t xs)
each_filter P t [] h = tt
each_filter P t (x ∷ xs) h = by (each_filter P t xs h.1) (t x)
  where
    by : AllByRecursion P (filter t xs) → (b : Bool) → AllByRecursion P (cond b (x ∷ filter t xs) (filter t xs))
    by rest true = (h.0, rest)
    by rest false = rest

each_put : (P : Kept → Type 0) (old : Kept → Bool) (new : Kept) (xs : List Kept) → P new → AllByRecursion P xs → AllByRecursion P (put_leaf old new xs)
each_put P old new [] n h = (n, tt)
each_put P old new (x ∷ xs) n h = by (each_put P old new xs n h.1) (old x) (nat_le (leaf_rank x.leaf) (leaf_rank new.leaf))
  where
    by : AllByRecursion P (put_leaf old new xs) → (a b : Bool) → AllByRecursion P (cond a (new ∷ xs) (cond b (x ∷ put_leaf old new xs) (new ∷ x ∷ xs)))
    by rest true b = (n, h.1)
    by rest false true = (h.0, rest)
    by rest false false = (n, h)

pub each_both : (P : Kept → Type 0) (xs ys : List Kept) → AllByRecursion P xs → AllByRecursion P ys → AllByRecursion P (xs ++ ys)
each_both P [] ys h g = g
each_both P (x ∷ xs) ys h g = (h.0, each_both P xs ys h.1 g)

pub each_weaker : {X : Type 0} (P Q : X → Type 0) → ((x : X) → P x → Q x) → (xs : List X) → AllByRecursion P xs → AllByRecursion Q xs
each_weaker P Q more [] h = tt
each_weaker P Q more (x ∷ xs) h = (more x h.0, each_weaker P Q more xs h.1)

-- of both lists
record AreEach (P : Kept → Type 0) (h : Held) : Type 0 where
  live : AllByRecursion P h.live
  held : AllByRecursion P h.held

pub change_live : (P : Kept → Type 0) (c : Carried) (h : Held) → P (kept_at c.placed) → AllByRecursion P h.live → AllByRecursion P (after_change h c).live
change_live P c h n e = by (is_idle h.live c.change) (is_set c.change)
  where
    by : (idle set : Bool) → AllByRecursion P (cond idle h.live (cond set (put_leaf (is_gone c.change) (kept_at c.placed) h.live) (filter (λ x. not (is_gone c.change x)) h.live)))
    by true set = e
    by false true = each_put P (is_gone c.change) (kept_at c.placed) h.live n e
    by false false = each_filter P (λ x. not (is_gone c.change x)) h.live e

pub group_live : (P : Kept → Type 0) (group : List Carried) (h : Held) → AllByRecursion (λ c. P (kept_at c.placed)) group → AllByRecursion P h.live → AllByRecursion P (fold after_change h group).live
group_live P [] h n e = e
group_live P (c ∷ group) h n e = group_live P group (after_change h c) n.1 (change_live P c h n.0 e)

change_each : (P : Kept → Type 0) (c : Carried) (h : Held) → P (kept_at c.placed) → AreEach P h → AreEach P (after_change h c)
change_each P c h n e = record { live = change_live P c h n e.live; held = held (is_idle h.live c.change) }
  where
    held : (idle : Bool) → AllByRecursion P (h.held ++ cond idle [] (filter (is_gone c.change) h.live))
    held true = each_both P h.held [] e.held tt
    held false = each_both P h.held (filter (is_gone c.change) h.live) e.held (each_filter P (is_gone c.change) h.live e.live)

group_each : (P : Kept → Type 0) (group : List Carried) (h : Held) → AllByRecursion (λ c. P (kept_at c.placed)) group → AreEach P h → AreEach P (fold after_change h group)
group_each P [] h n e = e
group_each P (c ∷ group) h n e = group_each P group (after_change h c) n.1 (change_each P c h n.0 e)

-- ---- views whose buds are those, and more
pub record HasMoreBuds (a b : View) : Type 0 where
  pub kept : b.kept ≡ a.kept
  pub buds : (leaf : Leaf) → in_bud (map named_by_log a.buds) leaf ≡ true → in_bud (map named_by_log b.buds) leaf ≡ true

of_more : (a b : View) (x : Kept) → HasMoreBuds a b → IsOfView a x → IsOfView b x
of_more a b x more (inl h) = inl (more.buds x.leaf h)
of_more a b x more (inr h) = inr (rw more.kept h)

abbrev pub HasMoreNext : Option Next → Option Next → Type 0
HasMoreNext a b = (x : Kept) → IsOfNext a x → IsOfNext b x

pub both_more : (m k : Store) → HasMoreBuds m.now k.now → HasMoreNext m.next k.next → (x : Kept) → IsOfView m.now x × IsOfNext m.next x → IsOfView k.now x × IsOfNext k.next x
both_more m k now next x h = (of_more m.now k.now x now h.0, next x h.1)

pub next_more : (change : List Bud → List Bud) (n : ℕ) (next : Option Next) → ((buds : List Bud) (leaf : Leaf) → in_bud (map named_by_log buds) leaf ≡ true → in_bud (map named_by_log (change buds)) leaf ≡ true)
    → HasMoreNext next (option_map (in_next change n) next)
next_more change n None more x h = tt
next_more change n (Some next) more x h = of_more next.view (record next.view { buds = change next.view.buds; put = next.view.put + n }) x (record { kept = refl; buds = more next.view.buds }) h

-- ---- a sync, a drop and an opened LEB
pub sync_views : (m : Store) → AreOfViews m → AreOfViews (sync m)
sync_views m v = record { live = v.live; held = tt }

pub drop_views : (m : Store) (ino : ℕ) (index : StoreIndex) → AreOfViews m → AreOfViews (drop_inode ino index m)
drop_views m ino index v = record { live = each_filter P (λ x. not (is_gone (DropInode ino) x)) m.live v.live; held = by (is_synced_orphan m.orphans ino) }
  where
    P : Kept → Type 0
    P x = IsOfView m.now x × IsOfNext m.next x

    by : (b : Bool) → AllByRecursion P (cond b m.held (m.held ++ filter (is_gone (DropInode ino)) m.live))
    by true = v.held
    by false = each_both P m.held (filter (is_gone (DropInode ino)) m.live) v.held (each_filter P (is_gone (DropInode ino)) m.live v.live)

open_buds : (head lnum : ℕ) (buds : List Bud) (leaf : Leaf) → in_bud (map named_by_log buds) leaf ≡ true → in_bud (map named_by_log (buds ++ new_bud head lnum 0 ∷ [])) leaf ≡ true
open_buds head lnum buds leaf h =
    ap (λ (ns : List Named). in_bud ns leaf) (map-append named_by_log buds (new_bud head lnum 0 ∷ []))
    ∙ list_any-append (λ (b : Named). (b.lnum == leaf.lnum) && nat_le b.from leaf.offs) (map named_by_log buds) (named_by_log (new_bud head lnum 0) ∷ [])
    ∙ or_left (in_bud (map named_by_log buds) leaf) (in_bud (named_by_log (new_bud head lnum 0) ∷ []) leaf) h

pub open_views : (m : Store) (head lnum : ℕ) → AreOfViews m → AreOfViews (open_leb head lnum m)
open_views m head lnum v = record { live = each_weaker P Q more m.live v.live; held = each_weaker P Q more m.held v.held }
  where
    k : Store
    k = open_leb head lnum m

    P : Kept → Type 0
    P x = IsOfView m.now x × IsOfNext m.next x

    Q : Kept → Type 0
    Q x = IsOfView k.now x × IsOfNext k.next x

    more : (x : Kept) → P x → Q x
    more x h = both_more m k (record { kept = refl; buds = open_buds head lnum m.now.buds }) (next_more (λ buds. buds ++ new_bud head lnum 0 ∷ []) 0 m.next (open_buds head lnum)) x h

-- ---- a put
pub named_put : (h : ℕ) (group : List Carried) (buds : List Bud) → map named_by_log (with_head_group h group buds) ≡ map named_by_log buds
named_put h group [] = refl
named_put h group (bud ∷ buds) = by (named_put h group buds) ((bud.head == h) && not (has_bud h buds)) refl
  where
    by : map named_by_log (with_head_group h group buds) ≡ map named_by_log buds → (b : Bool) → ((bud.head == h) && not (has_bud h buds)) ≡ b → map named_by_log (with_head_group h group (bud ∷ buds)) ≡ map named_by_log (bud ∷ buds)
    by rest true e = rw e refl
    by rest false e = rw e (ap (λ (ns : List Named). named_by_log bud ∷ ns) rest)

put_buds : (h : ℕ) (group : List Carried) (buds : List Bud) (leaf : Leaf) → in_bud (map named_by_log buds) leaf ≡ true → in_bud (map named_by_log (with_head_group h group buds)) leaf ≡ true
put_buds h group buds leaf is = ap (λ (ns : List Named). in_bud ns leaf) (named_put h group buds) ∙ is

-- a place behind the text of a head's LEB is in its last bud
reaches : (from low n : ℕ) → from ≤ low → low ≤ n → nat_le from n ≡ true
reaches from low n a b = grind (arith, a, b)

pub bud_begins : (lebs : List Leb) (head lnum offs : ℕ) (buds : List Bud) → items_len (text_in lebs lnum) ≤ offs → last_bud buds head ≡ Some lnum → AllByRecursion (IsBudIn lebs) buds
    → list_any (λ b. (b.lnum == lnum) && nat_le b.from offs) (map named_by_log buds) ≡ true
bud_begins lebs head lnum offs [] low e all = absurd cc
bud_begins lebs head lnum offs (bud ∷ buds) low e all = by (λ s. bud_begins lebs head lnum offs buds low s all.1) (last_bud buds head) refl (bud.head == head) e
  where
    test : Named → Bool
    test b = (b.lnum == lnum) && nat_le b.from offs

    by : (last_bud buds head ≡ Some lnum → list_any test (map named_by_log buds) ≡ true) → (o : Option ℕ) → last_bud buds head ≡ o → (mine : Bool) → option_or o (cond mine (Some bud.lnum) None) ≡ Some lnum
        → list_any test (map named_by_log (bud ∷ buds)) ≡ true
    by rest (Some l) o mine e = or_right (test (named_by_log bud)) (list_any test (map named_by_log buds)) (rest (o ∙ e))
    by rest None o true e =
        let is : bud.lnum ≡ lnum = cc in
        let from : bud.from ≤ items_len (text_in lebs lnum) = subst (λ (n : ℕ). bud.from ≤ items_len (text_in lebs n)) is all.0.from in
        or_left (test (named_by_log bud)) (list_any test (map named_by_log buds)) (and_from (bud.lnum == lnum) (nat_le bud.from offs) (eq-eqb bud.lnum lnum is) (reaches bud.from (items_len (text_in lebs lnum)) offs from low))
    by rest None o false e = absurd cc

-- nodes that stand at the end of a head
further : (low offs a : ℕ) → low ≤ offs → low ≤ offs + a
further low offs a h = omega (arith, h)

stand_each : (P : Kept → Type 0) (low lnum offs : ℕ) (group : List Carried) → ((c : Carried) → c.placed.lnum ≡ lnum → low ≤ c.placed.offs → P (kept_at c.placed)) → low ≤ offs → StandFrom lnum offs (map (λ c. c.placed) group)
    → AllByRecursion (λ c. P (kept_at c.placed)) group
stand_each P low lnum offs [] one more s = tt
stand_each P low lnum offs (c ∷ group) one more s =
    (one c s.0 (subst (λ (n : ℕ). low ≤ n) (sym s.1) more), stand_each P low lnum (offs + nodes_len (c.placed ∷ [])) group one (further low offs (nodes_len (c.placed ∷ [])) more) s.3)

pub part_views : (m : Store) (part : Part) → IsLegalPart m part → AreRolesApart m → HasSince m m.next → AreTexts m → AreOfViews m → AreOfViews (after_part m part)
part_views m part is a since t v = by (end_at m.ends part.head) refl is.fits
  where
    k : Store
    k = after_part m part

    P : Kept → Type 0
    P x = IsOfView m.now x × IsOfNext m.next x

    Q : Kept → Type 0
    Q x = IsOfView k.now x × IsOfNext k.next x

    more : (x : Kept) → P x → Q x
    more x h = both_more m k (record { kept = refl; buds = put_buds part.head part.group m.now.buds }) (next_more (with_head_group part.head part.group) (length part.group) m.next (put_buds part.head part.group)) x h

    in_next_bud : (at : At) (c : Carried) (next : Option Next) → end_at m.ends part.head ≡ Some at → c.placed.lnum ≡ at.lnum → items_len (text_in m.lebs at.lnum) ≤ c.placed.offs → HasSince m next → AreNextBudsIn m.lebs next
        → IsOfNext next (kept_at c.placed)
    in_next_bud at c None e same low since b = tt
    in_next_bud at c (Some next) e same low since b =
        inl (subst (λ (n : ℕ). list_any (λ b. (b.lnum == n) && nat_le b.from c.placed.offs) (map named_by_log next.view.buds) ≡ true) (sym same)
        (bud_begins m.lebs part.head at.lnum c.placed.offs next.view.buds low (end_bud next.view.buds 0 part.head part.head m.ends at (omega arith) since.ends e) b.each))

    one : (at : At) → end_at m.ends part.head ≡ Some at → (c : Carried) → c.placed.lnum ≡ at.lnum → items_len (text_in m.lebs at.lnum) ≤ c.placed.offs → Q (kept_at c.placed)
    one at e c same low = more (kept_at c.placed) (
      inl (subst (λ (n : ℕ). list_any (λ b. (b.lnum == n) && nat_le b.from c.placed.offs) (map named_by_log m.now.buds) ≡ true) (sym same)
          (bud_begins m.lebs part.head at.lnum c.placed.offs m.now.buds low (end_bud m.now.buds 0 part.head part.head m.ends at (omega arith) a.ends e) t.buds.each)),
      in_next_bud at c m.next e same low since t.later,
    )

    by : (o : Option At) → end_at m.ends part.head ≡ o → FitHead m o (map (λ c. c.placed) part.group) → AreOfViews k
    by None e fits = absurd fits
    by (Some at) e fits =
        let off = (end_of m.geo m.lebs part.head m.ends at t.ends e).0 in
        let new = stand_each Q (items_len (text_in m.lebs at.lnum)) at.lnum at.offs part.group (one at e) (omega (arith, off)) fits.0 in
        let each = group_each Q part.group (record { live = m.live; held = m.held }) new (record { live = each_weaker P Q more m.live v.live; held = each_weaker P Q more m.held v.held }) in
        record { live = each.live; held = each.held }

parts_views : (parts : List Part) (m : Store) → AreLegalParts m parts → 0 < m.geo.min_io → AreRolesApart m → HasSince m m.next → HasNumbers m → AreTexts m → AreOfViews m → AreOfViews (fold after_part m parts)
parts_views [] m are some a since n t v = v
parts_views (part ∷ parts) m are some a since n t v =
    parts_views parts (after_part m part) are.1 some (part_apart m part are.0 a) (part_since m part are.0 a since) (part_numbers m part are.0.head are.0.numbers n) (part_texts m part are.0 some a since n t) (part_views m part are.0 a since t v)

pub put_views : (m : Store) (p : Putting) → AreLegalParts m p.parts → 0 < m.geo.min_io → AreRolesApart m → HasSince m m.next → HasNumbers m → AreTexts m → AreOfViews m → AreOfViews (put p m)
put_views m p are some a since n t v = by p.payment (parts_views p.parts m are some a since n t v)
  where
    end : Store
    end = fold after_part m p.parts

    by : (payment : Payment) → AreOfViews end → AreOfViews (record (paid payment end) { index = p.index })
    by credit v = record { live = v.live; held = v.held }
    by granted v = record { live = v.live; held = v.held }
