-- No two live leaves stand at one place, after each event too.
use Rattle.std.proofs.Common.{◌≡◌, ◌≤◌, ◌<◌, ◌+◌, ℕ, arith, Bool, true, false, cond, not, List, [], ◌∷◌, map, refl, sym, ap, subst, ◌∙◌, inl, inr, Option, Some, None}
use Rattle.std.specs.Prelude.{◌==◌, ◌&&◌, filter, fold, nat_le}
use Rattle.std.specs.List.{AllByRecursion, list_all, list_any}
use Rattle.std.proofs.lemmas.Bool.{and_parts, eq-eqb, eqb-true, false≢true, leb-true}
use Rattle.std.proofs.lemmas.Bool.Decides.{nat_tests}
use Rattle.std.proofs.lemmas.Map.Keys.{IsDistinct-head, IsDistinct-tail, IsDistinct-cons, IsDistinct-from_apart}
use Rattle.ubifs_base.specs.declared.raw_geometry.RawGeometry.{RawGeometry}
use Rattle.index_tree.specs.declared.leaf.Leaf.{Leaf}
use Rattle.index_tree.specs.Distinct.{AreDistinct}
use Rattle.index_tree.specs.Order.{leaf_rank}
use Rattle.index_tree.specs.Removal.{holds, same_leaf}
use Rattle.media_leaf.specs.LeafNode.{LeafNode, inode, block, entry, truncation}
use Rattle.fs_model.specs.declared.change.Change.{Change}
use Rattle.fs_model.specs.declared.change.Change.TheVariants.{DropInode}
use Rattle.fs_model.specs.Cover.{round_8}
use Rattle.group_nodes.specs.Texts.{leaf_len}
use Rattle.leaf_map.specs.After.{is_gone, kept_by}
use Rattle.leaf_map.specs.Kept.{Kept, kept_at, Placed}
use Rattle.store_model.specs.Events.{after, after_change, after_part, at_its_copy, Begin, Copying, credit, Drop, End, end_at, end_commit, Event, Free, free_victim, granted, Held, Move, move, nodes_len, Offer, Open, paid, Part, Payment, Put, put, Putting, Start, Sync, Write, write_index}
use Rattle.store_model.specs.Invariant.{AreRolesApart, HasNumbers, HasSince, IsMeantIn, IsStore, LeafStands}
use Rattle.store_model.specs.Legal.{are_distinct, AreLegalParts, CanMove, FitHead, IsLegalEvent, IsLegalPart, StandFrom}
use Rattle.store_model.specs.Store.{At, branching, Carried, gap, Item, leaf, Leb, Moving, Next, Store}
use Rattle.store_model.specs.Texts.{AreTexts, IsLaidOut, items_len, leaf_nodes, text_in}
use Rattle.store_model.proofs.LebPuts.{part_apart}
use Rattle.store_model.proofs.LiveLeaves.{part_stands}
use Rattle.store_model.proofs.OfViews.{change_live, each_weaker}
use Rattle.store_model.proofs.PutNumbers.{part_numbers}
use Rattle.store_model.proofs.RecoveryOrder.{or_left, or_right}
use Rattle.store_model.proofs.Since.{part_since}
use Rattle.store_model.proofs.TextEnds.{end_of}
use Rattle.store_model.proofs.TextItems.{lnums, none_plus, one_len, standing_ends}
use Rattle.store_model.proofs.TextPuts.{part_texts}
use Rattle.store_model.proofs.Units.{some_unit}

abbrev leaves : List Kept → List Leaf
leaves kept = map (λ x. x.leaf) kept

-- distinct leaves stay so where no leaf stands at the place of the node that is put
abbrev pub DistinctLaw : Type 0
DistinctLaw = (change : Change) (new : Placed) (kept : List Kept) → holds (kept_at new).leaf (leaves kept) ≡ false → AreDistinct (leaves kept) → AreDistinct (leaves (kept_by change (kept_at new) kept))

-- ---- leaves that end at an offset of a LEB, or before it
abbrev IsLow : ℕ → ℕ → Kept → Type 0
IsLow lnum offs x = x.leaf.lnum ≡ lnum → x.leaf.offs + round_8 x.leaf.len ≤ offs

text_low : (lnum offs : ℕ) (x : Kept) (text : List Item) → list_all (λ p. (p.lnum == lnum) && nat_le (p.offs + round_8 p.len) offs) (leaf_nodes text) ≡ true → IsMeantIn x text → x.leaf.offs + round_8 x.leaf.len ≤ offs
text_low lnum offs x [] h is = absurd is
text_low lnum offs x (leaf p ∷ text) h (inl same) =
    let a = and_parts ((p.lnum == lnum) && nat_le (p.offs + round_8 p.len) offs) (list_all (λ q. (q.lnum == lnum) && nat_le (q.offs + round_8 q.len) offs) (leaf_nodes text)) h in
    let b = and_parts (p.lnum == lnum) (nat_le (p.offs + round_8 p.len) offs) a.0 in
    subst (λ (k : Kept). k.leaf.offs + round_8 k.leaf.len ≤ offs) same (leb-true (p.offs + round_8 p.len) offs b.1)
text_low lnum offs x (leaf p ∷ text) h (inr more) =
    let a = and_parts ((p.lnum == lnum) && nat_le (p.offs + round_8 p.len) offs) (list_all (λ q. (q.lnum == lnum) && nat_le (q.offs + round_8 q.len) offs) (leaf_nodes text)) h in
    text_low lnum offs x text a.1 more
text_low lnum offs x (branching b ∷ text) h is = text_low lnum offs x text h is
text_low lnum offs x (gap n ∷ text) h is = text_low lnum offs x text h is

stands_there : (lebs : List Leb) (x : Kept) → LeafStands lebs x → list_any (λ k. k == x.leaf.lnum) (lnums lebs) ≡ true
stands_there [] x s = absurd s
stands_there (leb ∷ lebs) x (inl is) = or_left (leb.lnum == x.leaf.lnum) (list_any (λ k. k == x.leaf.lnum) (lnums lebs)) (eq-eqb leb.lnum x.leaf.lnum is.0)
stands_there (leb ∷ lebs) x (inr s) = or_right (leb.lnum == x.leaf.lnum) (list_any (λ k. k == x.leaf.lnum) (lnums lebs)) (stands_there lebs x s)

-- a leaf that stands ends in the text of its LEB
pub stood_low : (geo : RawGeometry) (lebs : List Leb) (x : Kept) → AllByRecursion (IsLaidOut geo) lebs → are_distinct (lnums lebs) ≡ true → LeafStands lebs x → x.leaf.offs + round_8 x.leaf.len ≤ items_len (text_in lebs x.leaf.lnum)
stood_low geo [] x laid d s = absurd s
stood_low geo (leb ∷ lebs) x laid d (inl is) =
    let all = subst (λ (n : ℕ). list_all (λ p. (p.lnum == leb.lnum) && nat_le (p.offs + round_8 p.len) n) (leaf_nodes leb.text) ≡ true) (none_plus (items_len leb.text)) (standing_ends leb.lnum 0 leb.text laid.0.places) in
    rw (eq-eqb leb.lnum x.leaf.lnum is.0) (text_low leb.lnum (items_len leb.text) x leb.text all is.1)
stood_low geo (leb ∷ lebs) x laid d (inr s) = by (stood_low geo lebs x laid.1 parts.1 s) (leb.lnum == x.leaf.lnum) refl
  where
    parts : (not (list_any (λ k. k == leb.lnum) (lnums lebs)) ≡ true) × (are_distinct (lnums lebs) ≡ true)
    parts = and_parts (not (list_any (λ k. k == leb.lnum) (lnums lebs))) (are_distinct (lnums lebs)) d

    by : x.leaf.offs + round_8 x.leaf.len ≤ items_len (text_in lebs x.leaf.lnum) → (b : Bool) → (leb.lnum == x.leaf.lnum) ≡ b → x.leaf.offs + round_8 x.leaf.len ≤ items_len (cond b leb.text (text_in lebs x.leaf.lnum))
    by rest true e =
        let there = subst (λ (n : ℕ). list_any (λ k. k == n) (lnums lebs) ≡ true) (sym (eqb-true leb.lnum x.leaf.lnum e)) (stands_there lebs x s) in
        absurd (false≢true (ap not (sym there) ∙ parts.0))
    by rest false e = rest

-- at an open head all live leaves end where it ends, or before
all_low : (m : Store) (head : ℕ) (at : At) (xs : List Kept) → AreRolesApart m → AreTexts m → end_at m.ends head ≡ Some at → AllByRecursion (LeafStands m.lebs) xs → AllByRecursion (IsLow at.lnum at.offs) xs
all_low m head at xs a t e s = each_weaker (LeafStands m.lebs) (IsLow at.lnum at.offs) (λ x stands same. low x stands same) xs s
  where
    low : (x : Kept) → LeafStands m.lebs x → x.leaf.lnum ≡ at.lnum → x.leaf.offs + round_8 x.leaf.len ≤ at.offs
    low x stands same =
        let off = (end_of m.geo m.lebs head m.ends at t.ends e).0 in
        let h = subst (λ (n : ℕ). x.leaf.offs + round_8 x.leaf.len ≤ items_len (text_in m.lebs n)) same (stood_low m.geo m.lebs x t.laid a.numbers stands) in
        subst (λ (n : ℕ). x.leaf.offs + round_8 x.leaf.len ≤ n) (sym off) h

-- ---- a leaf at that offset is none of these
pub round_more : (n : ℕ) → n ≤ round_8 n
round_more n = omega arith

not_here : (lnum offs : ℕ) (x : Kept) (new : Leaf) → IsLow lnum offs x → new.lnum ≡ lnum → new.offs ≡ offs → 0 < new.len → same_leaf x.leaf new ≡ false
unfolding same_leaf
not_here lnum offs x new low at stand some = by (leaf_rank x.leaf == leaf_rank new) (x.leaf.lnum == new.lnum) refl (x.leaf.offs == new.offs) refl (x.leaf.len == new.len) refl
  where
    by : (r l : Bool) → (x.leaf.lnum == new.lnum) ≡ l → (o : Bool) → (x.leaf.offs == new.offs) ≡ o → (n : Bool) → (x.leaf.len == new.len) ≡ n → cond r (cond l (cond o n false) false) false ≡ false
    by false l e o f n g = refl
    by true false e o f n g = refl
    by true true e false f n g = refl
    by true true e true f false g = refl
    by true true e true f true g =
        let a = eqb-true x.leaf.lnum new.lnum e in
        let b = eqb-true x.leaf.offs new.offs f in
        let c = eqb-true x.leaf.len new.len g in
        let h = low (a ∙ at) in
        let more = round_more x.leaf.len in
        absurd (omega (arith, h, b, c, stand, some, more))

free_here : (lnum offs : ℕ) (new : Leaf) (xs : List Kept) → AllByRecursion (IsLow lnum offs) xs → new.lnum ≡ lnum → new.offs ≡ offs → 0 < new.len → holds new (leaves xs) ≡ false
free_here lnum offs new [] low at stand some = refl
free_here lnum offs new (x ∷ xs) low at stand some = rw (not_here lnum offs x new low.0 at stand some) (free_here lnum offs new xs low.1 at stand some)

pub some_len : (node : LeafNode) → 0 < leaf_len node
some_len (inode node) = omega arith
some_len (block node) = omega arith
some_len (entry node) = omega arith
some_len (truncation node) = omega arith

-- ---- a put
further : (lnum offs more : ℕ) (x : Kept) → IsLow lnum offs x → IsLow lnum (offs + more) x
further lnum offs more x low same = let h = low same in omega (arith, h)

group_distinct : DistinctLaw → (lnum offs : ℕ) (group : List Carried) (h : Held) → StandFrom lnum offs (map (λ c. c.placed) group) → AllByRecursion (IsLow lnum offs) h.live → AreDistinct (leaves h.live) → AreDistinct (leaves (fold after_change h group).live)
group_distinct law lnum offs [] h s low d = d
group_distinct law lnum offs (c ∷ group) h s low d =
    group_distinct law lnum next group (after_change h c) s.3 (change_live (IsLow lnum next) c h here (each_weaker (IsLow lnum offs) (IsLow lnum next) (λ x l. further lnum offs (nodes_here c) x l) h.live low))
    (law c.change c.placed h.live (free_here lnum offs (kept_at c.placed).leaf h.live low s.0 s.1 some) d)
  where
    nodes_here : Carried → ℕ
    nodes_here d = nodes_len (d.placed ∷ [])

    next : ℕ
    next = offs + nodes_len (c.placed ∷ [])

    some : 0 < c.placed.len
    some = let len = s.2 in let more = some_len c.placed.node in omega (arith, len, more)

    here : IsLow lnum next (kept_at c.placed)
    here same = let at = s.1 in let len = one_len c.placed in omega (arith, at, len)

part_distinct : DistinctLaw → (m : Store) (part : Part) → IsLegalPart m part → AreRolesApart m → AreTexts m → AllByRecursion (LeafStands m.lebs) m.live → AreDistinct (leaves m.live) → AreDistinct (leaves (after_part m part).live)
part_distinct law m part is a t s d = by (end_at m.ends part.head) refl is.fits
  where
    by : (o : Option At) → end_at m.ends part.head ≡ o → FitHead m o (map (λ c. c.placed) part.group) → AreDistinct (leaves (after_part m part).live)
    by None e fits = absurd fits
    by (Some at) e fits = group_distinct law at.lnum at.offs part.group (record { live = m.live; held = m.held }) fits.0 (all_low m part.head at m.live a t e s) d

parts_distinct : DistinctLaw → (parts : List Part) (m : Store) → AreLegalParts m parts → 0 < m.geo.min_io → AreRolesApart m → HasSince m m.next → HasNumbers m → AreTexts m → AllByRecursion (LeafStands m.lebs) m.live → AreDistinct (leaves m.live) → AreDistinct (leaves (fold after_part m parts).live)
parts_distinct law [] m are some a since n t s d = d
parts_distinct law (part ∷ parts) m are some a since n t s d =
    parts_distinct law parts (after_part m part) are.1 some (part_apart m part are.0 a) (part_since m part are.0 a since) (part_numbers m part are.0.head are.0.numbers n) (part_texts m part are.0 some a since n t) (part_stands m part are.0 a s)
    (part_distinct law m part are.0 a t s d)

put_distinct : DistinctLaw → (m : Store) (p : Putting) → AreLegalParts m p.parts → IsStore m → AreDistinct (leaves (put p m).live)
put_distinct law m p are s = by p.payment (parts_distinct law p.parts m are (some_unit m.geo s.geometry) s.apart s.since s.numbers s.standing.texts s.stands s.distinct)
  where
    end : Store
    end = fold after_part m p.parts

    by : (payment : Payment) → AreDistinct (leaves end.live) → AreDistinct (leaves (record (paid payment end) { index = p.index }).live)
    by credit d = d
    by granted d = d

-- ---- leaves that go
none_distinct : AreDistinct []
none_distinct = IsDistinct-from_apart same_leaf [] (λ i j d a b. absurd (omega arith))

abbrev Apart : Leaf → List Leaf → Type 0
Apart x xs = AllByRecursion (λ y. same_leaf x y ≡ false) xs

apart_left : (x : Leaf) (stay : Kept → Bool) (kept : List Kept) → Apart x (leaves kept) → Apart x (leaves (filter stay kept))
apart_left x stay [] a = tt
apart_left x stay (y ∷ kept) a = by (apart_left x stay kept a.1) (stay y)
  where
    by : Apart x (leaves (filter stay kept)) → (b : Bool) → Apart x (leaves (cond b (y ∷ filter stay kept) (filter stay kept)))
    by more true = (a.0, more)
    by more false = more

left_distinct : (stay : Kept → Bool) (kept : List Kept) → AreDistinct (leaves kept) → AreDistinct (leaves (filter stay kept))
left_distinct stay [] d = none_distinct
left_distinct stay (x ∷ kept) d = by (apart_left x.leaf stay kept (IsDistinct-head same_leaf x.leaf (leaves kept) d)) (left_distinct stay kept (IsDistinct-tail same_leaf x.leaf (leaves kept) d)) (stay x)
  where
    by : Apart x.leaf (leaves (filter stay kept)) → AreDistinct (leaves (filter stay kept)) → (b : Bool) → AreDistinct (leaves (cond b (x ∷ filter stay kept) (filter stay kept)))
    by first more true = IsDistinct-cons same_leaf x.leaf (leaves (filter stay kept)) first more
    by first more false = more

-- ---- a copy
same_number : (m n : ℕ) → (m == n) ≡ (n == m)
same_number m n = grind (arith, nat_tests)

same_turned : (x y : Leaf) → same_leaf x y ≡ same_leaf y x
unfolding same_leaf
same_turned x y = rw (same_number (leaf_rank x) (leaf_rank y), same_number x.lnum y.lnum, same_number x.offs y.offs, same_number x.len y.len) refl

-- leaves that are the same as a third are the same
same_through : (x y z : Leaf) → same_leaf x z ≡ true → same_leaf y z ≡ true → same_leaf x y ≡ true
unfolding same_leaf
same_through x y z h g = grind (arith, nat_tests)

copied_apart : (c : Copying) (lnum offs : ℕ) (x : Kept) (xs : List Kept) → c.copy.lnum ≡ lnum → c.copy.offs ≡ offs → 0 < c.copy.len → IsLow lnum offs x → AllByRecursion (IsLow lnum offs) xs → Apart x.leaf (leaves xs) → Apart (at_its_copy c x).leaf (leaves (map (at_its_copy c) xs))
copied_apart c lnum offs x [] at stand some low all a = tt
copied_apart c lnum offs x (y ∷ xs) at stand some low all a = (by (same_leaf x.leaf c.leaf.leaf) refl (same_leaf y.leaf c.leaf.leaf) refl, copied_apart c lnum offs x xs at stand some low all.1 a.1)
  where
    new : Leaf
    new = (kept_at c.copy).leaf

    by : (p : Bool) → same_leaf x.leaf c.leaf.leaf ≡ p → (q : Bool) → same_leaf y.leaf c.leaf.leaf ≡ q → same_leaf (cond p (record x { leaf = new }) x).leaf (cond q (record y { leaf = new }) y).leaf ≡ false
    by true e true f = absurd (false≢true (sym a.0 ∙ same_through x.leaf y.leaf c.leaf.leaf e f))
    by true e false f = same_turned new y.leaf ∙ not_here lnum offs y new all.0 at stand some
    by false e true f = not_here lnum offs x new low at stand some
    by false e false f = a.0

copied_distinct : (c : Copying) (lnum offs : ℕ) (xs : List Kept) → c.copy.lnum ≡ lnum → c.copy.offs ≡ offs → 0 < c.copy.len → AllByRecursion (IsLow lnum offs) xs → AreDistinct (leaves xs) → AreDistinct (leaves (map (at_its_copy c) xs))
copied_distinct c lnum offs [] at stand some all d = none_distinct
copied_distinct c lnum offs (x ∷ xs) at stand some all d =
    IsDistinct-cons same_leaf (at_its_copy c x).leaf (leaves (map (at_its_copy c) xs))
    (copied_apart c lnum offs x xs at stand some all.0 all.1 (IsDistinct-head same_leaf x.leaf (leaves xs) d))
    (copied_distinct c lnum offs xs at stand some all.1 (IsDistinct-tail same_leaf x.leaf (leaves xs) d))

move_distinct : (m : Store) (c : Copying) → CanMove m c → IsStore m → AreDistinct (leaves (move c m).live)
move_distinct m c can s = by (end_at m.ends 0) refl can.fits
  where
    by : (o : Option At) → end_at m.ends 0 ≡ o → FitHead m o (c.copy ∷ []) → AreDistinct (leaves (map (at_its_copy c) m.live))
    by None e fits = absurd fits
    by (Some at) e fits =
        let len = fits.0.2 in
        let more = some_len c.copy.node in
        copied_distinct c at.lnum at.offs m.live fits.0.0 fits.0.1 (omega (arith, len, more)) (all_low m 0 at m.live s.apart s.standing.texts e s.stands) s.distinct

-- ---- all events
free_distinct : (m : Store) (moving : Option Moving) → AreDistinct (leaves m.live) → AreDistinct (leaves (free_victim m moving).live)
free_distinct m None d = d
free_distinct m (Some moving) d = d

write_distinct : (m : Store) (next : Option Next) → AreDistinct (leaves m.live) → AreDistinct (leaves (write_index m next).live)
write_distinct m None d = d
write_distinct m (Some next) d = d

end_distinct : (m : Store) (next : Option Next) → AreDistinct (leaves m.live) → AreDistinct (leaves (end_commit m next).live)
end_distinct m None d = d
end_distinct m (Some next) d = d

pub each_distinct : DistinctLaw → (m : Store) (event : Event) → IsLegalEvent m event → IsStore m → AreDistinct (leaves (after event m).live)
each_distinct law m (Put p) can s = put_distinct law m p can.parts s
each_distinct law m (Open head lnum) can s = s.distinct
each_distinct law m Sync can s = s.distinct
each_distinct law m (Begin victim) can s = s.distinct
each_distinct law m (Move c) can s = move_distinct m c can s
each_distinct law m Free can s = free_distinct m m.moving s.distinct
each_distinct law m (Start taken) can s = s.distinct
each_distinct law m Write can s = write_distinct m m.next s.distinct
each_distinct law m Offer can s = s.distinct
each_distinct law m End can s = end_distinct m m.next s.distinct
each_distinct law m (Drop ino index) can s = left_distinct (λ x. not (is_gone (DropInode ino) x)) m.live s.distinct
