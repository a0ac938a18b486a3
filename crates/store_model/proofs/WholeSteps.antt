-- Whole or left LEBs, event by event.
use Rattle.std.proofs.Common.{◌≡◌, ◌≤◌, ◌<◌, ◌∙◌, ◌+◌, ◌-◌, ℕ, arith, Bool, true, false, cond, not, List, [], ◌∷◌, length, map, refl, sym, ap, subst, inr, Option, Some, None}
use Rattle.std.specs.Prelude.{◌==◌, ◌||◌, get_or}
use Rattle.std.specs.List.{AllByRecursion, flat_map, list_all, list_any}
use Rattle.std.specs.Option.{option_map, option_map_or}
use Rattle.std.proofs.lemmas.Bool.{and_from, eq-eqb, eqb-true, false≢true}
use Rattle.media_lpt.specs.declared.leb_kind.LebKind.TheVariants as kind
use Rattle.leaf_map.specs.Kept.{Kept}
use Rattle.store_model.specs.Events.{Copying, drop_inode, end_at, end_commit, free_victim, in_next, move, node_items, sync, view_branchings, with_items, write_index}
use Rattle.store_model.specs.Fits.{Faced, faced_now, IsLeafLeft, named_by_log, next_lists}
use Rattle.store_model.specs.Heads.{head_counts, less, with_copy}
use Rattle.store_model.specs.Invariant.{are_within, AreAccountedFor, AreRolesApart, AreWholeOrLeft, faced_later, HasSince, IsAccountedFor, IsBareOfLeaves, IsMeantIn, IsTaking, OfBoth, OfNext, LeafStands}
use Rattle.store_model.specs.Lebs.{emptied_leb, has_role, stands_in}
use Rattle.store_model.specs.Legal.{CanFree, CanMove, FitHead, IfRunning}
use Rattle.store_model.specs.Store.{At, StoreIndex, leaf, Leb, Moving, Next, Store}
use Rattle.store_model.proofs.AccountedCopies.{copied_later, copied_now, HasCopyMore, left_more, zero_less}
use Rattle.store_model.proofs.AllViews.{named_copy}
use Rattle.store_model.proofs.BegunEvents.{one_less, two_less}
use Rattle.store_model.proofs.LebDrops.{dropped_store}
use Rattle.store_model.proofs.LebEnds.{ended_store}
use Rattle.store_model.proofs.LebFrees.{synced_store}
use Rattle.store_model.proofs.LebRows.{has_row, role_row, rows, to_rows}
use Rattle.store_model.proofs.LiveLeaves.{all_padded_stand, changed_number, items_stand, stands_map}
use Rattle.store_model.proofs.RecoveryCopies.{not_true}
use Rattle.store_model.proofs.StandEvents.{all_written, among_taken, stands_after}
use Rattle.store_model.proofs.WholeLebs.{EitherLeb, IsEmptied, KeepsLeb, all_left, keeps_either, left_synced, stood_role, tidied_either, within_at}
use Rattle.store_model.proofs.WholeOpens.{IsAsLeft, left_as}

-- ---- a sync
fewer : (n k gone : ℕ) → n ≤ k → n - gone ≤ k - gone
fewer n k gone h = omega (arith, h)

pub sync_left : (m : Store) → are_within m.synced (head_counts m.now.buds) ≡ true → (x : Kept) → IsLeafLeft (faced_now m) x → IsLeafLeft (faced_now (sync m)) x
sync_left m within x h = left_synced m.now m.synced (head_counts m.now.buds) (m.listed ∷ next_lists m.next) x (within_at m.synced (head_counts m.now.buds) 0 within) (within_at m.synced (head_counts m.now.buds) 1 within) (within_at m.synced (head_counts m.now.buds) 2 within) h

pub sync_left_later : (m : Store) (next : Next) → are_within m.synced (head_counts m.now.buds) ≡ true → (x : Kept) → IsLeafLeft (faced_later m next) x → IsLeafLeft (faced_later (sync m) next) x
sync_left_later m next within x h =
    let all : List ℕ = head_counts m.now.buds in
    let gone : List ℕ = less all (head_counts next.view.buds) in
    left_synced next.view (less m.synced gone) (less all gone) (next.listed ∷ []) x
    (subst (λ (n : ℕ). n ≤ get_or (less all gone) 0 0) (sym (zero_less m.synced _ _ _)) (fewer (get_or m.synced 0 0) (get_or all 0 0) (get_or gone 0 0) (within_at m.synced all 0 within)))
    (subst (λ (n : ℕ). n ≤ get_or (less all gone) 1 0) (sym (one_less m.synced _ _ _)) (fewer (get_or m.synced 1 0) (get_or all 1 0) (get_or gone 1 0) (within_at m.synced all 1 within)))
    (subst (λ (n : ℕ). n ≤ get_or (less all gone) 2 0) (sym (two_less m.synced _ _ _)) (fewer (get_or m.synced 2 0) (get_or all 2 0) (get_or gone 2 0) (within_at m.synced all 2 within))) h

pub sync_whole : (m : Store) → are_within m.synced (head_counts m.now.buds) ≡ true → OfBoth m (AreWholeOrLeft m) → OfBoth (sync m) (AreAccountedFor (sync m)) → OfBoth (sync m) (AreWholeOrLeft (sync m))
sync_whole m within h a = (λ n. tidied_either m s (faced_now m) (faced_now (sync m)) n m.now.kept (record { named = refl; stand = λ x at st. padded_all x st; left = sync_left m within }) a.0 (h.0 n), by m.next h.1 a.1)
  where
    s : Store
    s = synced_store m

    padded_all : (x : Kept) → LeafStands m.lebs x → LeafStands s.lebs x
    padded_all x st = all_padded_stand m.geo m.lebs m.ends x st

    by : (next : Option Next) → OfNext m next (AreWholeOrLeft m) → OfNext (sync m) next (AreAccountedFor (sync m)) → OfNext (sync m) next (AreWholeOrLeft (sync m))
    by None g a = tt
    by (Some next) g a = λ n. tidied_either m s (faced_later m next) (faced_later (sync m) next) n next.view.kept (record { named = refl; stand = λ x at st. padded_all x st; left = sync_left_later m next within }) a (g n)

-- ---- an inode without a name goes
pub drop_whole : (m : Store) (ino : ℕ) (index : StoreIndex) → OfBoth m (AreWholeOrLeft m) → OfBoth (drop_inode ino index m) (AreAccountedFor (drop_inode ino index m)) → OfBoth (drop_inode ino index m) (AreWholeOrLeft (drop_inode ino index m))
drop_whole m ino index h a = (λ n. tidied_either m s (faced_now m) (faced_now k) n m.now.kept (record { named = refl; stand = λ x at st. st; left = λ x left. left }) a.0 (h.0 n), by m.next h.1 a.1)
  where
    s : Store
    s = dropped_store ino index m

    k : Store
    k = drop_inode ino index m

    by : (next : Option Next) → OfNext m next (AreWholeOrLeft m) → OfNext k next (AreAccountedFor k) → OfNext k next (AreWholeOrLeft k)
    by None g a = tt
    by (Some next) g a = λ n. tidied_either m s (faced_later m next) (faced_later k next) n next.view.kept (record { named = refl; stand = λ x at st. st; left = λ x left. left }) a (g n)

-- ---- a victim is freed
pub free_whole : (m : Store) (moving : Option Moving) → m.moving ≡ moving → CanFree m → OfBoth m (AreWholeOrLeft m) → OfBoth (free_victim m moving) (AreAccountedFor (free_victim m moving))
    → OfBoth (free_victim m moving) (AreWholeOrLeft (free_victim m moving))
free_whole m None e can h a = h
free_whole m (Some moving) e can h a = (λ n. one (faced_now m) (faced_now k) n m.now.kept refl (λ x left. left) a.0 (h.0 n), by m.next h.1 a.1)
  where
    k : Store
    k = free_victim m (Some moving)

    none : list_any (stands_in moving.victim) m.live ≡ false
    none = let no : not (list_any (stands_in moving.victim) m.live) ≡ true = rw e at can.empty in not_true (list_any (stands_in moving.victim) m.live) no

    gone : (n : ℕ) → moving.victim ≡ n → IsEmptied k n
    gone n same = record { live = subst (λ (i : ℕ). list_any (stands_in i) m.live ≡ false) same none; held = ap (list_any (stands_in n)) can.synced.none_held; victim = refl }

    stays : (n : ℕ) (x : Kept) → (moving.victim == n) ≡ false → x.leaf.lnum ≡ n → LeafStands m.lebs x → LeafStands k.lebs x
    stays n x away at st = stands_map (λ leb. cond (leb.lnum == moving.victim) (emptied_leb leb) leb) x m.lebs (λ leb. changed_number moving.victim emptied_leb (λ leb. refl) leb (leb.lnum == moving.victim))
        (λ leb same is. keeps leb same is (leb.lnum == moving.victim) refl) st
      where
        keeps : (leb : Leb) → leb.lnum ≡ x.leaf.lnum → IsMeantIn x leb.text → (b : Bool) → (leb.lnum == moving.victim) ≡ b → IsMeantIn x (cond b (emptied_leb leb) leb).text
        keeps leb same is true e = absurd (false≢true (sym away ∙ eq-eqb moving.victim n (sym (eqb-true leb.lnum moving.victim e) ∙ same ∙ at)))
        keeps leb same is false e = is

    one : (f g : Faced) (n : ℕ) (kept : List Kept) → map named_by_log g.view.buds ≡ map named_by_log f.view.buds → ((x : Kept) → IsLeafLeft f x → IsLeafLeft g x) → AllByRecursion (IsAccountedFor k g) kept → EitherLeb m f kept n → EitherLeb k g kept n
    one f g n kept named left accounted h = by (moving.victim == n) refl
      where
        by : (b : Bool) → (moving.victim == n) ≡ b → EitherLeb k g kept n
        by true e = inr (all_left k g n kept (gone n (eqb-true moving.victim n e)) accounted)
        by false e = keeps_either m k f g n kept (record { named = named; stand = λ x at st. stays n x e at st; left = left }) h

    by : (next : Option Next) → OfNext m next (AreWholeOrLeft m) → OfNext k next (AreAccountedFor k) → OfNext k next (AreWholeOrLeft k)
    by None g a = tt
    by (Some next) g a = λ n. one (faced_later m next) (faced_later k next) n next.view.kept refl (λ x left. left) a (g n)

-- ---- a leaf is copied
pub move_whole : (m : Store) (c : Copying) → CanMove m c → AreRolesApart m → HasSince m m.next → OfBoth m (AreWholeOrLeft m) → OfBoth (move c m) (AreWholeOrLeft (move c m))
move_whole m c can a since h = by (end_at m.ends 0) refl can.fits
  where
    k : Store
    k = move c m

    stand : (o : Option At) → end_at m.ends 0 ≡ o → (x : Kept) → LeafStands m.lebs x → LeafStands k.lebs x
    stand o e x st = subst (λ (o : Option At). LeafStands (option_map_or (λ at. with_items at.lnum (map leaf (c.copy ∷ [])) m.lebs) o m.lebs) x) (sym e) (of o)
      where
        of : (o : Option At) → LeafStands (option_map_or (λ at. with_items at.lnum (map leaf (c.copy ∷ [])) m.lebs) o m.lebs) x
        of None = st
        of (Some at) = items_stand at.lnum (map leaf (c.copy ∷ [])) m.lebs x st

    keeps : (f g : Faced) (n : ℕ) → map named_by_log g.view.buds ≡ map named_by_log f.view.buds → HasCopyMore f g c.copy → KeepsLeb m k f g n
    keeps f g n named more = record { named = named; stand = λ x at st. stand (end_at m.ends 0) refl x st; left = λ x left. left_more f g c.copy x more left }

    later : (at : At) → end_at m.ends 0 ≡ Some at → (next : Option Next) → HasSince m next → OfNext m next (AreWholeOrLeft m) → OfNext k (option_map (in_next (with_copy c.copy) 0) next) (AreWholeOrLeft k)
    later at e None s g = tt
    later at e (Some next) s g =
        let after : Next = in_next (with_copy c.copy) 0 next in
        λ n. keeps_either m k (faced_later m next) (faced_later k after) n next.view.kept (keeps (faced_later m next) (faced_later k after) n (named_copy c.copy next.view.buds) (copied_later m c at next a s e)) (g n)

    by : (o : Option At) → end_at m.ends 0 ≡ o → FitHead m o (c.copy ∷ []) → OfBoth k (AreWholeOrLeft k)
    by None e fits = absurd fits
    by (Some at) e fits = (λ n. keeps_either m k (faced_now m) (faced_now k) n m.now.kept (keeps (faced_now m) (faced_now k) n (named_copy c.copy m.now.buds) (copied_now m c at a e)) (h.0 n), later at e m.next since h.1)

-- ---- a commit's LEB is written, in which no leaf stood
pub write_whole : (m : Store) (next : Option Next) → m.next ≡ next → IfRunning m (λ next. next.written < length next.taken) → AreRolesApart m → IsTaking m m.next → AllByRecursion IsBareOfLeaves m.lebs → OfBoth m (AreWholeOrLeft m)
    → OfBoth (write_index m next) (AreWholeOrLeft (write_index m next))
write_whole m None e can a t bare h = h
write_whole m (Some next) e can a t bare h = (
  λ n. keeps_either m k (faced_now m) (faced_now k) n m.now.kept (record { named = refl; stand = λ x at st. stays x st; left = λ x left. left_as (faced_now m) (faced_now k) x same left }) (h.0 n),
  λ n. keeps_either m k (faced_later m next) (faced_later k after) n next.view.kept (record { named = refl; stand = λ x at st. stays x st; left = λ x left. left }) (later n),
)
  where
    k : Store
    k = write_index m (Some next)

    after : Next
    after = record next { written = next.written + 1 }

    lnum : ℕ
    lnum = get_or next.taken next.written 0

    same : IsAsLeft (faced_now m) (faced_now k)
    same = record { tree = refl; copies = refl; synced = refl; heads = refl; lists = sym (ap (λ (o : Option Next). m.listed ∷ next_lists o) e) }

    later : AreWholeOrLeft m (faced_later m next)
    later = subst (λ (o : Option Next). OfNext m o (AreWholeOrLeft m)) e h.1

    stays : (x : Kept) → LeafStands m.lebs x → LeafStands k.lebs x
    stays x st =
        let left : next.written < length next.taken = rw e at can in
        let taking = subst (λ (o : Option Next). IsTaking m o) e t in
        let is = among_taken (has_role kind.Taken m.lebs) next.taken next.written left taking.0 in
        let role = stood_role x m.lebs bare st in
        (all_written (rows m.lebs) (flat_map (node_items m.geo) (view_branchings next.view lnum m.sqnum)) lnum m.lebs (x ∷ []) (to_rows m a).numbers (sym (role_row kind.Taken m.lebs lnum) ∙ is) (role_all x role) (st, tt)).0
      where
        role_all : (x : Kept) → (has_row kind.Leaf (rows m.lebs) x.leaf.lnum || has_row kind.Bud (rows m.lebs) x.leaf.lnum) ≡ true → list_all (λ x. has_row kind.Leaf (rows m.lebs) x.leaf.lnum || has_row kind.Bud (rows m.lebs) x.leaf.lnum) (x ∷ []) ≡ true
        role_all x role = and_from (has_row kind.Leaf (rows m.lebs) x.leaf.lnum || has_row kind.Bud (rows m.lebs) x.leaf.lnum) true role refl

-- ---- a commit ends
pub end_whole : (m : Store) (next : Option Next) → m.next ≡ next → AreRolesApart m → AllByRecursion IsBareOfLeaves m.lebs → OfBoth m (AreWholeOrLeft m) → OfBoth (end_commit m next) (AreAccountedFor (end_commit m next)) → OfBoth (end_commit m next) (AreWholeOrLeft (end_commit m next))
end_whole m None e a bare h acc = h
end_whole m (Some next) e a bare h acc = (
  λ n. tidied_either m (ended_store m next) (faced_later m next) (faced_now (end_commit m (Some next))) n next.view.kept (record { named = refl; stand = λ x at st. stands_after next.view x m.lebs (to_rows m a).numbers (stood_role x m.lebs bare st) st; left = λ x left. left }) acc.0 (later n),
  tt,
)
  where
    later : AreWholeOrLeft m (faced_later m next)
    later = subst (λ (o : Option Next). OfNext m o (AreWholeOrLeft m)) e h.1
