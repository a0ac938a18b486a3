-- Each live leaf's node stands in its LEB, after a put, an opened LEB, a sync and a drop.
use Rattle.std.proofs.Common.{◌≡◌, ◌⊎◌, ℕ, Bool, true, false, cond, not, List, [], ◌∷◌, ◌++◌, map, refl, sym, ap, subst, ◌∙◌, inl, inr, Option, Some, None}
use Rattle.std.specs.Prelude.{◌==◌, ◌&&◌, ◌||◌, filter, fold}
use Rattle.std.specs.List.{AllByRecursion, list_all, list_any}
use Rattle.std.proofs.lemmas.Bool.{and_parts, eq-eqb, eqb-true, false≢true}
use Rattle.media_lpt.specs.declared.leb_kind.LebKind.TheVariants as kind
use Rattle.fs_model.specs.declared.change.Change.TheVariants.{DropInode}
use Rattle.ubifs_base.specs.declared.raw_geometry.RawGeometry.{RawGeometry}
use Rattle.leaf_map.specs.After.{is_gone}
use Rattle.leaf_map.specs.Kept.{Kept, kept_at, Placed}
use Rattle.store_model.specs.Events.{after_part, credit, drop_inode, end_at, granted, last_gap, open_leb, padded_head, paid, Part, Payment, put, Putting, sync, with_items}
use Rattle.store_model.specs.Invariant.{AreRolesApart, IsMeantIn, LeafStands}
use Rattle.store_model.specs.Lebs.{changed_leb, emptied_leb, freed, has_leaf, has_role, is_role, is_victim_of, stands_in}
use Rattle.store_model.specs.Legal.{AreLegalParts, FitHead, IsLegalPart}
use Rattle.store_model.specs.Store.{At, Carried, branching, gap, StoreIndex, Item, leaf, Leb, Store}
use Rattle.store_model.proofs.LebDrops.{dropped_store}
use Rattle.store_model.proofs.LebFrees.{all_stand, synced_store}
use Rattle.store_model.proofs.LebLeaves.{AreIn}
use Rattle.store_model.proofs.LebPuts.{head_role, other_leb, part_apart, placed_in}
use Rattle.store_model.proofs.LebRows.{AreRows, has_row, role_row, rows, to_rows}
use Rattle.store_model.proofs.OfViews.{each_filter, each_weaker, group_live}
use Rattle.store_model.proofs.RecoveryCopies.{either_of}
use Rattle.store_model.proofs.RecoveryOrder.{or_left}
use Rattle.store_model.proofs.TextItems.{is_there, row_there}
use Rattle.store_model.proofs.TextOpens.{opened}

-- ---- items behind others
meant_more : (x : Kept) (text items : List Item) → IsMeantIn x text → IsMeantIn x (text ++ items)
meant_more x [] items h = absurd h
meant_more x (leaf p ∷ text) items (inl is) = inl is
meant_more x (leaf p ∷ text) items (inr h) = inr (meant_more x text items h)
meant_more x (branching b ∷ text) items h = meant_more x text items h
meant_more x (gap n ∷ text) items h = meant_more x text items h

meant_last : (x : Kept) (text items : List Item) → IsMeantIn x items → IsMeantIn x (text ++ items)
meant_last x [] items h = h
meant_last x (leaf p ∷ text) items h = inr (meant_last x text items h)
meant_last x (branching b ∷ text) items h = meant_last x text items h
meant_last x (gap n ∷ text) items h = meant_last x text items h

-- ---- LEBs that keep what stands in one of them
pub stands_map : (f : Leb → Leb) (x : Kept) (lebs : List Leb) → ((leb : Leb) → (f leb).lnum ≡ leb.lnum) → ((leb : Leb) → leb.lnum ≡ x.leaf.lnum → IsMeantIn x leb.text → IsMeantIn x (f leb).text)
    → LeafStands lebs x → LeafStands (map f lebs) x
stands_map f x [] keeps more s = absurd s
stands_map f x (leb ∷ lebs) keeps more (inl (same, is)) = inl (keeps leb ∙ same, more leb same is)
stands_map f x (leb ∷ lebs) keeps more (inr s) = inr (stands_map f x lebs keeps more s)

pub changed_number : (n : ℕ) (change : Leb → Leb) → ((leb : Leb) → (change leb).lnum ≡ leb.lnum) → (leb : Leb) (b : Bool) → (cond b (change leb) leb).lnum ≡ leb.lnum
changed_number n change keeps leb true = keeps leb
changed_number n change keeps leb false = refl

pub items_stand : (n : ℕ) (items : List Item) (lebs : List Leb) (x : Kept) → LeafStands lebs x → LeafStands (with_items n items lebs) x
items_stand n items lebs x s = stands_map (λ leb. cond (leb.lnum == n) (more leb) leb) x lebs (λ leb. changed_number n more (λ leb. refl) leb (leb.lnum == n)) (λ leb same is. by leb is (leb.lnum == n)) s
  where
    more : Leb → Leb
    more leb = record leb { text = leb.text ++ items }

    by : (leb : Leb) → IsMeantIn x leb.text → (b : Bool) → IsMeantIn x (cond b (more leb) leb).text
    by leb is true = meant_more x leb.text items is
    by leb is false = is

pub padded_stand : (geo : RawGeometry) (lebs : List Leb) (at : Option At) (x : Kept) → LeafStands lebs x → LeafStands (padded_head geo lebs at) x
padded_stand geo lebs None x s = s
padded_stand geo lebs (Some at) x s = items_stand at.lnum (last_gap geo at) lebs x s

pub all_padded_stand : (geo : RawGeometry) (lebs : List Leb) (ends : List (Option At)) (x : Kept) → LeafStands lebs x → LeafStands (fold (padded_head geo) lebs ends) x
all_padded_stand geo lebs [] x s = s
all_padded_stand geo lebs (at ∷ ends) x s = all_padded_stand geo (padded_head geo lebs at) ends x (padded_stand geo lebs at x s)

-- a LEB that has a live leaf isn't emptied
freed_stands : (k : Store) (lebs : List Leb) (x : Kept) → list_any (stands_in x.leaf.lnum) k.live ≡ true → LeafStands lebs x → LeafStands (map (freed k) lebs) x
freed_stands k lebs x live s = stands_map (freed k) x lebs (λ leb. changed_number 0 emptied_leb (λ leb. refl) leb (test leb)) (λ leb same is. rw (used leb same) (by leb is (is_role kind.Leaf leb.role))) s
  where
    test : Leb → Bool
    test leb = is_role kind.Leaf leb.role && not (has_leaf k leb.lnum) && not (is_victim_of k.moving leb.lnum)

    used : (leb : Leb) → leb.lnum ≡ x.leaf.lnum → has_leaf k leb.lnum ≡ true
    used leb same = subst (λ (n : ℕ). has_leaf k n ≡ true) (sym same) (or_left (list_any (stands_in x.leaf.lnum) k.live) (list_any (stands_in x.leaf.lnum) k.held) live)

    by : (leb : Leb) → IsMeantIn x leb.text → (b : Bool) → IsMeantIn x (cond (b && false && not (is_victim_of k.moving leb.lnum)) (emptied_leb leb) leb).text
    by leb is true = is
    by leb is false = is

-- ---- all live leaves
pub all_freed : (k : Store) (lebs : List Leb) (xs : List Kept) → list_all (λ x. list_any (stands_in x.leaf.lnum) k.live) xs ≡ true → AllByRecursion (LeafStands lebs) xs → AllByRecursion (LeafStands (map (freed k) lebs)) xs
all_freed k lebs [] h s = tt
all_freed k lebs (x ∷ xs) h s =
    let p = and_parts (list_any (stands_in x.leaf.lnum) k.live) (list_all (λ x. list_any (stands_in x.leaf.lnum) k.live) xs) h in
    (freed_stands k lebs x p.0 s.0, all_freed k lebs xs p.1 s.1)

pub sync_stands : (m : Store) → AllByRecursion (LeafStands m.lebs) m.live → AllByRecursion (LeafStands (sync m).lebs) (sync m).live
sync_stands m s =
    let lebs = fold (padded_head m.geo) m.lebs m.ends in
    all_freed (synced_store m) lebs m.live (all_stand m.live) (each_weaker (LeafStands m.lebs) (LeafStands lebs) (λ x h. all_padded_stand m.geo m.lebs m.ends x h) m.live s)

pub drop_stands : (m : Store) (ino : ℕ) (index : StoreIndex) → AllByRecursion (LeafStands m.lebs) m.live → AllByRecursion (LeafStands (drop_inode ino index m).lebs) (drop_inode ino index m).live
drop_stands m ino index s =
    let live = filter (λ x. not (is_gone (DropInode ino) x)) m.live in
    all_freed (dropped_store ino index m) m.lebs live (all_stand live) (each_filter (LeafStands m.lebs) (λ x. not (is_gone (DropInode ino) x)) m.live s)

-- no live leaf stood in the LEB that is opened
all_opened : (m : Store) (before : List Leb) (lnum : ℕ) (xs : List Kept) → list_all (λ x. has_row kind.Leaf (rows m.lebs) x.leaf.lnum || has_row kind.Bud (rows m.lebs) x.leaf.lnum) xs ≡ true
    → AreRolesApart m → has_row kind.Free (rows m.lebs) lnum ≡ true → AllByRecursion (LeafStands before) xs → AllByRecursion (LeafStands (changed_leb lnum opened before)) xs
all_opened m before lnum [] h a free s = tt
all_opened m before lnum (x ∷ xs) h a free s =
    let leaf_in = has_row kind.Leaf (rows m.lebs) x.leaf.lnum in
    let p = and_parts (leaf_in || has_row kind.Bud (rows m.lebs) x.leaf.lnum) (list_all (λ x. has_row kind.Leaf (rows m.lebs) x.leaf.lnum || has_row kind.Bud (rows m.lebs) x.leaf.lnum) xs) h in (
      stands_map (λ leb. cond (leb.lnum == lnum) (opened leb) leb) x before (λ leb. changed_number lnum opened (λ leb. refl) leb (leb.lnum == lnum))
          (λ leb same is. keeps leb same is (away (either_of (has_row kind.Leaf (rows m.lebs) x.leaf.lnum) (has_row kind.Bud (rows m.lebs) x.leaf.lnum) p.0)) (leb.lnum == lnum) refl) s.0,
      all_opened m before lnum xs p.1 a free s.1,
    )
  where
    r : AreRows m (rows m.lebs)
    r = to_rows m a

    away : (has_row kind.Leaf (rows m.lebs) x.leaf.lnum ≡ true) ⊎ (has_row kind.Bud (rows m.lebs) x.leaf.lnum ≡ true) → (lnum == x.leaf.lnum) ≡ false
    away (inl h) = other_leb (rows m.lebs) lnum x.leaf.lnum kind.Free kind.Leaf r.numbers free h refl
    away (inr h) = other_leb (rows m.lebs) lnum x.leaf.lnum kind.Free kind.Bud r.numbers free h refl

    keeps : (leb : Leb) → leb.lnum ≡ x.leaf.lnum → IsMeantIn x leb.text → (lnum == x.leaf.lnum) ≡ false → (b : Bool) → (leb.lnum == lnum) ≡ b → IsMeantIn x (cond b (opened leb) leb).text
    keeps leb same is other true e = absurd (false≢true (sym other ∙ ap (λ (n : ℕ). n == x.leaf.lnum) (sym (eqb-true leb.lnum lnum e)) ∙ ap (λ (n : ℕ). n == x.leaf.lnum) same ∙ eq-eqb x.leaf.lnum x.leaf.lnum refl))
    keeps leb same is other false e = is

pub open_stands : (m : Store) (head lnum : ℕ) → has_role kind.Free m.lebs lnum ≡ true → AreRolesApart m → AllByRecursion (LeafStands m.lebs) m.live → AllByRecursion (LeafStands (open_leb head lnum m).lebs) m.live
open_stands m head lnum empty a s =
    let before = padded_head m.geo m.lebs (end_at m.ends head) in
    all_opened m before lnum m.live (to_rows m a).leaves a (sym (role_row kind.Free m.lebs lnum) ∙ empty)
    (each_weaker (LeafStands m.lebs) (LeafStands before) (λ x h. padded_stand m.geo m.lebs (end_at m.ends head) x h) m.live s)

-- ---- a put
pub put_stand : (n : ℕ) (nodes : List Placed) (lebs : List Leb) (p : Placed) → is_there n lebs ≡ true → p.lnum ≡ n → IsMeantIn (kept_at p) (map leaf nodes) → LeafStands (with_items n (map leaf nodes) lebs) (kept_at p)
put_stand n nodes [] p there same is = absurd (false≢true there)
put_stand n nodes (leb ∷ lebs) p there same is = by (λ h. put_stand n nodes lebs p h same is) (leb.lnum == n) refl there
  where
    by : (is_there n lebs ≡ true → LeafStands (with_items n (map leaf nodes) lebs) (kept_at p)) → (b : Bool) → (leb.lnum == n) ≡ b → (b || is_there n lebs) ≡ true
        → LeafStands (cond b (record leb { text = leb.text ++ map leaf nodes }) leb ∷ with_items n (map leaf nodes) lebs) (kept_at p)
    by rest true e h = inl (eqb-true leb.lnum n e ∙ sym same, meant_last (kept_at p) leb.text (map leaf nodes) is)
    by rest false e h = inr (rest h)

meant_each : (group : List Carried) → AllByRecursion (λ c. IsMeantIn (kept_at c.placed) (map leaf (map (λ c. c.placed) group))) group
meant_each [] = tt
meant_each (c ∷ group) =
    (inl refl, each_weaker (λ (d : Carried). IsMeantIn (kept_at d.placed) (map leaf (map (λ c. c.placed) group))) (λ (d : Carried). IsMeantIn (kept_at d.placed) (map leaf (map (λ c. c.placed) (c ∷ group)))) (λ d h. inr h) group (meant_each group))

new_stand : (n : ℕ) (nodes : List Placed) (lebs : List Leb) (group : List Carried) → is_there n lebs ≡ true → AreIn n group → AllByRecursion (λ c. IsMeantIn (kept_at c.placed) (map leaf nodes)) group
    → AllByRecursion (λ c. LeafStands (with_items n (map leaf nodes) lebs) (kept_at c.placed)) group
new_stand n nodes lebs [] there at is = tt
new_stand n nodes lebs (c ∷ group) there at is = (put_stand n nodes lebs c.placed there at.0 is.0, new_stand n nodes lebs group there at.1 is.1)

pub part_stands : (m : Store) (part : Part) → IsLegalPart m part → AreRolesApart m → AllByRecursion (LeafStands m.lebs) m.live → AllByRecursion (LeafStands (after_part m part).lebs) (after_part m part).live
part_stands m part is a s = by (end_at m.ends part.head) refl is.fits
  where
    nodes : List Placed
    nodes = map (λ c. c.placed) part.group

    by : (o : Option At) → end_at m.ends part.head ≡ o → FitHead m o nodes → AllByRecursion (LeafStands (after_part m part).lebs) (after_part m part).live
    by None e fits = absurd fits
    by (Some at) e fits =
        let new = with_items at.lnum (map leaf nodes) m.lebs in
        let same : (after_part m part).lebs ≡ new = rw e refl in
        let there = row_there kind.Bud at.lnum m.lebs (head_role m part.head at a e) in
        let each = group_live (LeafStands new) part.group (record { live = m.live; held = m.held }) (new_stand at.lnum nodes m.lebs part.group there (placed_in at.lnum at.offs part.group fits.0) (meant_each part.group))
        (each_weaker (LeafStands m.lebs) (LeafStands new) (λ x h. items_stand at.lnum (map leaf nodes) m.lebs x h) m.live s) in
        subst (λ (lebs : List Leb). AllByRecursion (LeafStands lebs) (after_part m part).live) (sym same) each

parts_stand : (parts : List Part) (m : Store) → AreLegalParts m parts → AreRolesApart m → AllByRecursion (LeafStands m.lebs) m.live → AllByRecursion (LeafStands (fold after_part m parts).lebs) (fold after_part m parts).live
parts_stand [] m are a s = s
parts_stand (part ∷ parts) m are a s = parts_stand parts (after_part m part) are.1 (part_apart m part are.0 a) (part_stands m part are.0 a s)

pub put_stands : (m : Store) (p : Putting) → AreLegalParts m p.parts → AreRolesApart m → AllByRecursion (LeafStands m.lebs) m.live → AllByRecursion (LeafStands (put p m).lebs) (put p m).live
put_stands m p are a s = by p.payment (parts_stand p.parts m are a s)
  where
    end : Store
    end = fold after_part m p.parts

    by : (payment : Payment) → AllByRecursion (LeafStands end.lebs) end.live → AllByRecursion (LeafStands (record (paid payment end) { index = p.index }).lebs) (record (paid payment end) { index = p.index }).live
    by credit s = s
    by granted s = s
