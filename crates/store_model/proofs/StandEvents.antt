-- Each live leaf's node stands in its LEB, after a collection's and a commit's events too.
use Rattle.std.proofs.Common.{◌≡◌, ◌⊎◌, ◌<◌, ◌∙◌, ℕ, zero, suc, arith, Bool, true, false, cond, not, List, [], ◌∷◌, length, map, refl, sym, ap, subst, inl, inr, Option, Some, None}
use Rattle.std.specs.Prelude.{◌==◌, ◌&&◌, ◌||◌, get_or}
use Rattle.std.specs.List.{AllByRecursion, flat_map, list_all, list_any}
use Rattle.std.proofs.lemmas.Bool.{and_parts, eq-eqb, eqb-true, false≢true}
use Rattle.media_lpt.specs.declared.leb_kind.LebKind.{LebKind}
use Rattle.media_lpt.specs.declared.leb_kind.LebKind.TheVariants as kind
use Rattle.index_tree.specs.declared.leaf.Leaf.{Leaf}
use Rattle.index_tree.specs.Distinct.{AreDistinct}
use Rattle.index_tree.specs.Removal.{same_leaf}
use Rattle.leaf_map.specs.Kept.{Kept, kept_at}
use Rattle.media_leaf.specs.LeafNode.{LeafNode}
use Rattle.store_model.specs.Events.{after, at_its_copy, Begin, Copying, Drop, End, end_at, end_commit, Event, Free, free_victim, Move, move, node_items, Offer, Open, Put, role_after, role_then, Start, Sync, take_leb, view_branchings, with_items, Write, write_index}
use Rattle.store_model.specs.Invariant.{AreRolesApart, IsMeantIn, IsStore, IsTaking, LeafStands}
use Rattle.store_model.specs.Lebs.{changed_leb, emptied_leb, has_node, has_role, is_among, is_role, stands_in}
use Rattle.store_model.specs.Legal.{are_distinct, CanMove, FitHead, IfMoving, IfRunning, IsLeafOf, IsLegalEvent}
use Rattle.store_model.specs.Store.{At, Item, leaf, Leb, Moving, Next, Store, View}
use Rattle.store_model.proofs.LebEnds.{ended_store}
use Rattle.store_model.proofs.LebFrees.{all_stand}
use Rattle.store_model.proofs.LebPuts.{head_role, other_leb}
use Rattle.store_model.proofs.LebRows.{has_one, has_row, numbers_of, role_row, rows, to_rows}
use Rattle.store_model.proofs.LiveLeaves.{all_freed, changed_number, drop_stands, items_stand, open_stands, put_stand, put_stands, stands_map, sync_stands}
use Rattle.store_model.proofs.Moves.{all_leaves, one_leaf}
use Rattle.store_model.proofs.OfViews.{each_weaker}
use Rattle.store_model.proofs.RecoveryCopies.{either_of, not_true}
use Rattle.store_model.proofs.RecoveryOrder.{or_left, or_right}
use Rattle.store_model.proofs.Sorting.{or_false}
use Rattle.store_model.proofs.TextItems.{row_there}

-- ---- a collection
-- no live leaf stands in a LEB that is emptied
all_emptied : (n : ℕ) (lebs : List Leb) (xs : List Kept) → list_any (stands_in n) xs ≡ false → AllByRecursion (LeafStands lebs) xs → AllByRecursion (LeafStands (changed_leb n emptied_leb lebs)) xs
all_emptied n lebs [] none s = tt
all_emptied n lebs (x ∷ xs) none s =
    let p = or_false (stands_in n x) (list_any (stands_in n) xs) none in (
      stands_map (λ leb. cond (leb.lnum == n) (emptied_leb leb) leb) x lebs (λ leb. changed_number n emptied_leb (λ leb. refl) leb (leb.lnum == n)) (λ leb same is. keeps leb same is p.0 (leb.lnum == n) refl) s.0,
      all_emptied n lebs xs p.1 s.1,
    )
  where
    keeps : (leb : Leb) → leb.lnum ≡ x.leaf.lnum → IsMeantIn x leb.text → (x.leaf.lnum == n) ≡ false → (b : Bool) → (leb.lnum == n) ≡ b → IsMeantIn x (cond b (emptied_leb leb) leb).text
    keeps leb same is away true e = absurd (false≢true (sym away ∙ ap (λ (k : ℕ). k == n) (sym same) ∙ e))
    keeps leb same is away false e = is

free_stands : (m : Store) (moving : Option Moving) → m.moving ≡ moving → IfMoving m (λ moving. not (list_any (stands_in moving.victim) m.live) ≡ true) → AllByRecursion (LeafStands m.lebs) m.live → AllByRecursion (LeafStands (free_victim m moving).lebs) (free_victim m moving).live
free_stands m None e can s = s
free_stands m (Some moving) e can s =
    let none : not (list_any (stands_in moving.victim) m.live) ≡ true = rw e at can in
    all_emptied moving.victim m.lebs m.live (not_true (list_any (stands_in moving.victim) m.live) none) s

-- the leaf that is copied stands at its copy
copy_is : (c : Copying) (x : Kept) → c.copy.node ≡ c.leaf.node → c.copy.sqnum ≡ c.leaf.sqnum → x ≡ c.leaf → record x { leaf = (kept_at c.copy).leaf } ≡ kept_at c.copy
copy_is c x node sqnum same =
    let l : Leaf = (kept_at c.copy).leaf in
    ap (λ (y : Kept). record y { leaf = l }) same ∙ ap (λ (n : LeafNode). record c.leaf { leaf = l; node = n }) (sym node) ∙ ap (λ (n : ℕ). record c.leaf { leaf = l; node = c.copy.node; sqnum = n }) (sym sqnum)

one_moved : (m : Store) (c : Copying) (lnum : ℕ) → CanMove m c → AreDistinct (map (λ x. x.leaf) m.live) → LeafStands (with_items lnum (leaf c.copy ∷ []) m.lebs) (kept_at c.copy) → (x : Kept) → IsLeafOf m.live x → LeafStands m.lebs x → LeafStands (with_items lnum (leaf c.copy ∷ []) m.lebs) (at_its_copy c x)
one_moved m c lnum can d new x is s = by (same_leaf x.leaf c.leaf.leaf) refl
  where
    by : (b : Bool) → same_leaf x.leaf c.leaf.leaf ≡ b → LeafStands (with_items lnum (leaf c.copy ∷ []) m.lebs) (cond b (record x { leaf = (kept_at c.copy).leaf }) x)
    by true e = subst (LeafStands (with_items lnum (leaf c.copy ∷ []) m.lebs)) (sym (copy_is c x can.node_is can.sqnum (one_leaf m.live c.leaf x d can.live is e))) new
    by false e = items_stand lnum (leaf c.copy ∷ []) m.lebs x s

all_moved : (m : Store) (c : Copying) (lnum : ℕ) → CanMove m c → AreDistinct (map (λ x. x.leaf) m.live) → LeafStands (with_items lnum (leaf c.copy ∷ []) m.lebs) (kept_at c.copy) → (xs : List Kept) → AllByRecursion (IsLeafOf m.live) xs → AllByRecursion (LeafStands m.lebs) xs
    → AllByRecursion (LeafStands (with_items lnum (leaf c.copy ∷ []) m.lebs)) (map (at_its_copy c) xs)
all_moved m c lnum can d new [] are s = tt
all_moved m c lnum can d new (x ∷ xs) are s = (one_moved m c lnum can d new x are.0 s.0, all_moved m c lnum can d new xs are.1 s.1)

move_stands : (m : Store) (c : Copying) → CanMove m c → AreDistinct (map (λ x. x.leaf) m.live) → AreRolesApart m → AllByRecursion (LeafStands m.lebs) m.live → AllByRecursion (LeafStands (move c m).lebs) (move c m).live
move_stands m c can d a s = by (end_at m.ends 0) refl can.fits
  where
    by : (o : Option At) → end_at m.ends 0 ≡ o → FitHead m o (c.copy ∷ []) → AllByRecursion (LeafStands (move c m).lebs) (map (at_its_copy c) m.live)
    by None e fits = absurd fits
    by (Some at) e fits =
        let same : (move c m).lebs ≡ with_items at.lnum (leaf c.copy ∷ []) m.lebs = rw e refl in
        let there = row_there kind.Bud at.lnum m.lebs (head_role m 0 at a e) in
        subst (λ (lebs : List Leb). AllByRecursion (LeafStands lebs) (map (at_its_copy c) m.live)) (sym same)
        (all_moved m c at.lnum can d (put_stand at.lnum (c.copy ∷ []) m.lebs c.copy there fits.0.0 (inl refl)) m.live (all_leaves m.live) s)

-- ---- a commit
take_number : (taken : List ℕ) (leb : Leb) → (take_leb taken leb).lnum ≡ leb.lnum
take_number taken leb = by (is_among taken leb.lnum)
  where
    by : (b : Bool) → (cond b (record leb { role = kind.Taken }) leb).lnum ≡ leb.lnum
    by true = refl
    by false = refl

take_meant : (taken : List ℕ) (leb : Leb) (x : Kept) → IsMeantIn x leb.text → IsMeantIn x (take_leb taken leb).text
take_meant taken leb x is = by (is_among taken leb.lnum)
  where
    by : (b : Bool) → IsMeantIn x (cond b (record leb { role = kind.Taken }) leb).text
    by true = is
    by false = is

pub start_stands : (m : Store) (taken : List ℕ) (xs : List Kept) → AllByRecursion (LeafStands m.lebs) xs → AllByRecursion (LeafStands (map (take_leb taken) m.lebs)) xs
start_stands m taken xs s = each_weaker (LeafStands m.lebs) (LeafStands (map (take_leb taken) m.lebs)) (λ x h. stands_map (take_leb taken) x m.lebs (take_number taken) (λ leb same is. take_meant taken leb x is) h) xs s

-- a LEB that is written was taken, so no leaf stands there
pub among_taken : (test : ℕ → Bool) (numbers : List ℕ) (n : ℕ) → n < length numbers → list_all test numbers ≡ true → test (get_or numbers n 0) ≡ true
among_taken test [] n low h = absurd (omega (arith, low))
among_taken test (k ∷ numbers) zero low h = (and_parts (test k) (list_all test numbers) h).0
among_taken test (k ∷ numbers) (suc n) low h = among_taken test numbers n (omega (arith, low)) (and_parts (test k) (list_all test numbers) h).1

pub all_written : (rs : List (ℕ × LebKind)) (text : List Item) (n : ℕ) (lebs : List Leb) (xs : List Kept) → are_distinct (numbers_of rs) ≡ true → has_row kind.Taken rs n ≡ true
    → list_all (λ x. has_row kind.Leaf rs x.leaf.lnum || has_row kind.Bud rs x.leaf.lnum) xs ≡ true → AllByRecursion (LeafStands lebs) xs → AllByRecursion (LeafStands (changed_leb n (λ leb. record leb { text = text }) lebs)) xs
all_written rs text n lebs [] d is h s = tt
all_written rs text n lebs (x ∷ xs) d is h s =
    let p = and_parts (has_row kind.Leaf rs x.leaf.lnum || has_row kind.Bud rs x.leaf.lnum) (list_all (λ x. has_row kind.Leaf rs x.leaf.lnum || has_row kind.Bud rs x.leaf.lnum) xs) h in
    let away = other (either_of (has_row kind.Leaf rs x.leaf.lnum) (has_row kind.Bud rs x.leaf.lnum) p.0) in (
      stands_map (λ leb. cond (leb.lnum == n) (set leb) leb) x lebs (λ leb. changed_number n set (λ leb. refl) leb (leb.lnum == n)) (λ leb same is. keeps leb same is away (leb.lnum == n) refl) s.0,
      all_written rs text n lebs xs d is p.1 s.1,
    )
  where
    set : Leb → Leb
    set leb = record leb { text = text }

    other : (has_row kind.Leaf rs x.leaf.lnum ≡ true) ⊎ (has_row kind.Bud rs x.leaf.lnum ≡ true) → (n == x.leaf.lnum) ≡ false
    other (inl e) = other_leb rs n x.leaf.lnum kind.Taken kind.Leaf d is e refl
    other (inr e) = other_leb rs n x.leaf.lnum kind.Taken kind.Bud d is e refl

    keeps : (leb : Leb) → leb.lnum ≡ x.leaf.lnum → IsMeantIn x leb.text → (n == x.leaf.lnum) ≡ false → (b : Bool) → (leb.lnum == n) ≡ b → IsMeantIn x (cond b (set leb) leb).text
    keeps leb same is away true e = absurd (false≢true (sym away ∙ eq-eqb n x.leaf.lnum (sym (eqb-true leb.lnum n e) ∙ same)))
    keeps leb same is away false e = is

write_stands : (m : Store) (next : Option Next) → m.next ≡ next → IfRunning m (λ next. next.written < length next.taken) → AreRolesApart m → IsTaking m m.next → AllByRecursion (LeafStands m.lebs) m.live → AllByRecursion (LeafStands (write_index m next).lebs) (write_index m next).live
write_stands m None e can a t s = s
write_stands m (Some next) e can a t s =
    let lnum : ℕ = get_or next.taken next.written 0 in
    let left : next.written < length next.taken = rw e at can in
    let taking = subst (λ (o : Option Next). IsTaking m o) e t in
    let is = among_taken (has_role kind.Taken m.lebs) next.taken next.written left taking.0 in
    let r = to_rows m a in
    all_written (rows m.lebs) (flat_map (node_items m.geo) (view_branchings next.view lnum m.sqnum)) lnum m.lebs m.live r.numbers (sym (role_row kind.Taken m.lebs lnum) ∙ is) r.leaves s

-- a leaf LEB and a bud keep their texts at a commit's end
abbrev has_leaves : LebKind → Bool
has_leaves role = is_role kind.Leaf role || is_role kind.Bud role

then_number : (view : View) (leb : Leb) (role : LebKind) → (role_then view leb role).lnum ≡ leb.lnum
then_number view leb kind.Free = refl
then_number view leb kind.Leaf = refl
then_number view leb kind.Taken = refl
then_number view leb kind.Index = by (has_node view.places leb.lnum)
  where
    by : (b : Bool) → (cond b leb (emptied_leb leb)).lnum ≡ leb.lnum
    by true = refl
    by false = refl
then_number view leb kind.Bud = by (list_any (λ bud. bud.lnum == leb.lnum) view.buds)
  where
    by : (b : Bool) → (cond b leb (record leb { role = kind.Leaf })).lnum ≡ leb.lnum
    by true = refl
    by false = refl

then_meant : (view : View) (leb : Leb) (role : LebKind) (x : Kept) → has_leaves role ≡ true → IsMeantIn x leb.text → IsMeantIn x (role_then view leb role).text
then_meant view leb kind.Leaf x h is = is
then_meant view leb kind.Bud x h is = by (list_any (λ bud. bud.lnum == leb.lnum) view.buds)
  where
    by : (b : Bool) → IsMeantIn x (cond b leb (record leb { role = kind.Leaf })).text
    by true = is
    by false = is
then_meant view leb kind.Free x h is = absurd (false≢true h)
then_meant view leb kind.Index x h is = absurd (false≢true h)
then_meant view leb kind.Taken x h is = absurd (false≢true h)

stands_number : (lebs : List Leb) (x : Kept) → LeafStands lebs x → list_any (λ k. k == x.leaf.lnum) (numbers_of (rows lebs)) ≡ true
stands_number [] x s = absurd s
stands_number (leb ∷ lebs) x (inl is) = or_left (leb.lnum == x.leaf.lnum) (list_any (λ k. k == x.leaf.lnum) (numbers_of (rows lebs))) (eq-eqb leb.lnum x.leaf.lnum is.0)
stands_number (leb ∷ lebs) x (inr s) = or_right (leb.lnum == x.leaf.lnum) (list_any (λ k. k == x.leaf.lnum) (numbers_of (rows lebs))) (stands_number lebs x s)

-- of a LEB with leaves the role is one of the two
pub stands_after : (view : View) (x : Kept) (lebs : List Leb) → are_distinct (numbers_of (rows lebs)) ≡ true → (has_row kind.Leaf (rows lebs) x.leaf.lnum || has_row kind.Bud (rows lebs) x.leaf.lnum) ≡ true → LeafStands lebs x → LeafStands (map (role_after view) lebs) x
stands_after view x [] d h s = absurd s
stands_after view x (leb ∷ lebs) d h s = by (stands_after view x lebs parts.1) s
  where
    rs : List (ℕ × LebKind)
    rs = rows lebs

    parts : (not (list_any (λ k. k == leb.lnum) (numbers_of (rows lebs))) ≡ true) × (are_distinct (numbers_of (rows lebs)) ≡ true)
    parts = and_parts (not (list_any (λ k. k == leb.lnum) (numbers_of (rows lebs)))) (are_distinct (numbers_of (rows lebs))) d

    -- another row of this number there is none
    apart : (role : LebKind) → leb.lnum ≡ x.leaf.lnum → has_row role (rows lebs) x.leaf.lnum ≡ true → ⊥
    apart role same more =
        let there = subst (λ (n : ℕ). list_any (λ k. k == n) (numbers_of (rows lebs)) ≡ true) (sym same) (has_one role (rows lebs) x.leaf.lnum more) in
        false≢true (sym (not_true (list_any (λ k. k == leb.lnum) (numbers_of (rows lebs))) parts.0) ∙ there)

    first : (role : LebKind) → leb.lnum ≡ x.leaf.lnum → (((leb.lnum == x.leaf.lnum) && is_role role leb.role) ≡ true) ⊎ (has_row role (rows lebs) x.leaf.lnum ≡ true) → is_role role leb.role ≡ true
    first role same (inl e) = (and_parts (leb.lnum == x.leaf.lnum) (is_role role leb.role) e).1
    first role same (inr more) = absurd (apart role same more)

    here : leb.lnum ≡ x.leaf.lnum → (has_row kind.Leaf (rows (leb ∷ lebs)) x.leaf.lnum ≡ true) ⊎ (has_row kind.Bud (rows (leb ∷ lebs)) x.leaf.lnum ≡ true) → has_leaves leb.role ≡ true
    here same (inl e) = or_left (is_role kind.Leaf leb.role) (is_role kind.Bud leb.role) (first kind.Leaf same (either_of ((leb.lnum == x.leaf.lnum) && is_role kind.Leaf leb.role) (has_row kind.Leaf (rows lebs) x.leaf.lnum) e))
    here same (inr e) = or_right (is_role kind.Leaf leb.role) (is_role kind.Bud leb.role) (first kind.Bud same (either_of ((leb.lnum == x.leaf.lnum) && is_role kind.Bud leb.role) (has_row kind.Bud (rows lebs) x.leaf.lnum) e))

    which : (has_row kind.Leaf (rows (leb ∷ lebs)) x.leaf.lnum ≡ true) ⊎ (has_row kind.Bud (rows (leb ∷ lebs)) x.leaf.lnum ≡ true)
    which = either_of (has_row kind.Leaf (rows (leb ∷ lebs)) x.leaf.lnum) (has_row kind.Bud (rows (leb ∷ lebs)) x.leaf.lnum) h

    -- where the leaf stands further on, the first row isn't its LEB's
    past : (role : LebKind) → LeafStands lebs x → (((leb.lnum == x.leaf.lnum) && is_role role leb.role) ≡ true) ⊎ (has_row role (rows lebs) x.leaf.lnum ≡ true) → has_row role (rows lebs) x.leaf.lnum ≡ true
    past role s (inl e) =
        let same = eqb-true leb.lnum x.leaf.lnum (and_parts (leb.lnum == x.leaf.lnum) (is_role role leb.role) e).0 in
        let there = subst (λ (n : ℕ). list_any (λ k. k == n) (numbers_of (rows lebs)) ≡ true) (sym same) (stands_number lebs x s) in
        absurd (false≢true (sym (not_true (list_any (λ k. k == leb.lnum) (numbers_of (rows lebs))) parts.0) ∙ there))
    past role s (inr more) = more

    rest : LeafStands lebs x → (has_row kind.Leaf (rows (leb ∷ lebs)) x.leaf.lnum ≡ true) ⊎ (has_row kind.Bud (rows (leb ∷ lebs)) x.leaf.lnum ≡ true) → (has_row kind.Leaf (rows lebs) x.leaf.lnum || has_row kind.Bud (rows lebs) x.leaf.lnum) ≡ true
    rest s (inl e) = or_left (has_row kind.Leaf (rows lebs) x.leaf.lnum) (has_row kind.Bud (rows lebs) x.leaf.lnum) (past kind.Leaf s (either_of ((leb.lnum == x.leaf.lnum) && is_role kind.Leaf leb.role) (has_row kind.Leaf (rows lebs) x.leaf.lnum) e))
    rest s (inr e) = or_right (has_row kind.Leaf (rows lebs) x.leaf.lnum) (has_row kind.Bud (rows lebs) x.leaf.lnum) (past kind.Bud s (either_of ((leb.lnum == x.leaf.lnum) && is_role kind.Bud leb.role) (has_row kind.Bud (rows lebs) x.leaf.lnum) e))

    by : ((has_row kind.Leaf (rows lebs) x.leaf.lnum || has_row kind.Bud (rows lebs) x.leaf.lnum) ≡ true → LeafStands lebs x → LeafStands (map (role_after view) lebs) x) → LeafStands (leb ∷ lebs) x → LeafStands (map (role_after view) (leb ∷ lebs)) x
    by more (inl is) = inl (then_number view leb leb.role ∙ is.0, then_meant view leb leb.role x (here is.0 which) is.1)
    by more (inr s) = inr (more (rest s which) s)

all_after : (view : View) (lebs : List Leb) (xs : List Kept) → are_distinct (numbers_of (rows lebs)) ≡ true → list_all (λ x. has_row kind.Leaf (rows lebs) x.leaf.lnum || has_row kind.Bud (rows lebs) x.leaf.lnum) xs ≡ true → AllByRecursion (LeafStands lebs) xs
    → AllByRecursion (LeafStands (map (role_after view) lebs)) xs
all_after view lebs [] d h s = tt
all_after view lebs (x ∷ xs) d h s =
    let p = and_parts (has_row kind.Leaf (rows lebs) x.leaf.lnum || has_row kind.Bud (rows lebs) x.leaf.lnum) (list_all (λ x. has_row kind.Leaf (rows lebs) x.leaf.lnum || has_row kind.Bud (rows lebs) x.leaf.lnum) xs) h in
    (stands_after view x lebs d p.0 s.0, all_after view lebs xs d p.1 s.1)

end_stands : (m : Store) (next : Option Next) → AreRolesApart m → AllByRecursion (LeafStands m.lebs) m.live → AllByRecursion (LeafStands (end_commit m next).lebs) (end_commit m next).live
end_stands m None a s = s
end_stands m (Some next) a s =
    let r = to_rows m a in
    all_freed (ended_store m next) (map (role_after next.view) m.lebs) m.live (all_stand m.live) (all_after next.view m.lebs m.live r.numbers r.leaves s)

-- ---- all events
pub each_stands : (m : Store) (event : Event) → IsLegalEvent m event → IsStore m → AllByRecursion (LeafStands (after event m).lebs) (after event m).live
each_stands m (Put p) can s = put_stands m p can.parts s.apart s.stands
each_stands m (Open head lnum) can s = open_stands m head lnum can.empty s.apart s.stands
each_stands m Sync can s = sync_stands m s.stands
each_stands m (Begin victim) can s = s.stands
each_stands m (Move c) can s = move_stands m c can s.distinct s.apart s.stands
each_stands m Free can s = free_stands m m.moving refl can.empty s.stands
each_stands m (Start taken) can s = start_stands m taken m.live s.stands
each_stands m Write can s = write_stands m m.next refl can s.apart s.taking s.stands
each_stands m Offer can s = s.stands
each_stands m End can s = end_stands m m.next s.apart s.stands
each_stands m (Drop ino index) can s = drop_stands m ino index s.stands
