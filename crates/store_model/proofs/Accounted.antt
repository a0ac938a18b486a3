-- A committed leaf is live or held, or copied out of a victim, or needn't stand: after a collection's begin, an opened LEB, and a commit's events.
use Rattle.std.proofs.Common.{◌≡◌, ◌∙◌, ◌+◌, ℕ, Bool, true, false, cond, List, [], ◌∷◌, ◌++◌, length, refl, sym, ap, subst, inl, inr, Option, Some, None}
use Rattle.std.specs.Prelude.{◌==◌, ◌&&◌}
use Rattle.std.specs.List.{list_any}
use Rattle.std.specs.Option.{option_map}
use Rattle.leaf_map.specs.Kept.{Kept, Placed, shown, shown_by}
use Rattle.leaf_map.specs.LeafMap.{shows_same}
use Rattle.store_model.specs.Events.{begin, end_commit, in_next, new_bud, offer, offered, open_leb, opened_for, start, write_index}
use Rattle.store_model.specs.Fits.{Faced, faced_now, IsLeafLeft, next_lists}
use Rattle.store_model.specs.Heads.{copies_of}
use Rattle.store_model.specs.Invariant.{AreAccountedFor, faced_later, IsAccountedFor, IsMoved, IsStore, KeepOrphans, OfBoth, OfNext}
use Rattle.store_model.specs.Legal.{CanBegin, CanStart, IfRunning, IsLeafOf}
use Rattle.store_model.specs.Store.{Moving, Next, Store}
use Rattle.store_model.proofs.Moves.{all_leaves}
use Rattle.store_model.proofs.Offers.{offer_left}
use Rattle.store_model.proofs.OfViews.{each_weaker}
use Rattle.store_model.proofs.WholeOpens.{IsAsLeft, left_as, opened_later, opened_now}

-- where live and held leaves stay, and what was copied
pub record FollowsFor (m k : Store) (f g : Faced) (x : Kept) : Type 0 where
  pub live : k.live ≡ m.live
  pub held : k.held ≡ m.held
  pub moved : IsMoved m.moving f x → IsMoved k.moving g x
  pub left : IsLeafLeft f x → IsLeafLeft g x

pub follows : (m k : Store) (f g : Faced) (x : Kept) → FollowsFor m k f g x → IsAccountedFor m f x → IsAccountedFor k g x
follows m k f g x s (inl live) = inl (subst (λ (xs : List Kept). IsLeafOf xs x) (sym s.live) live)
follows m k f g x s (inr (inl held)) = inr (inl (subst (λ (xs : List Kept). IsLeafOf xs x) (sym s.held) held))
follows m k f g x s (inr (inr (inl moved))) = inr (inr (inl (s.moved moved)))
follows m k f g x s (inr (inr (inr left))) = inr (inr (inr (s.left left)))

-- ---- a collection begins
begin_one : (m : Store) (victim : ℕ) (f : Faced) (x : Kept) → m.moving ≡ None → IsAccountedFor m f x → IsAccountedFor (begin victim m) f x
begin_one m victim f x idle h = follows m (begin victim m) f f x (record { live = refl; held = refl; moved = λ moved. absurd (subst (λ (o : Option Moving). IsMoved o f x) idle moved); left = λ left. left }) h

pub begin_accounted : (m : Store) (victim : ℕ) → CanBegin m victim → OfBoth m (AreAccountedFor m) → OfBoth (begin victim m) (AreAccountedFor (begin victim m))
begin_accounted m victim can h = (each_weaker (IsAccountedFor m (faced_now m)) (IsAccountedFor k (faced_now m)) (λ x g. begin_one m victim (faced_now m) x can.idle g) m.now.kept h.0, by m.next h.1)
  where
    k : Store
    k = begin victim m

    by : (next : Option Next) → OfNext m next (AreAccountedFor m) → OfNext k next (AreAccountedFor k)
    by None g = tt
    by (Some next) g = each_weaker (IsAccountedFor m (faced_later m next)) (IsAccountedFor k (faced_later m next)) (λ x g. begin_one m victim (faced_later m next) x can.idle g) next.view.kept g

-- ---- a LEB is opened
opened_moved : (head : ℕ) (moving : Option Moving) (f g : Faced) (x : Kept) → copies_of g.view.buds ≡ copies_of f.view.buds → IsMoved moving f x → IsMoved (option_map (opened_for head) moving) g x
opened_moved head None f g x same h = absurd h
opened_moved head (Some moving) f g x same h = by (head == 0)
  where
    copied : list_any (λ c. (c.sqnum == x.sqnum) && shows_same (shown_by x) (shown c.node)) (copies_of g.view.buds) ≡ true
    copied = ap (λ (cs : List Placed). list_any (λ c. (c.sqnum == x.sqnum) && shows_same (shown_by x) (shown c.node)) cs) same ∙ h.1

    by : (b : Bool) → IsMoved (Some (cond b (record moving { opened = true }) moving)) g x
    by true = (h.0, copied)
    by false = (h.0, copied)

open_one : (m : Store) (head lnum : ℕ) (f g : Faced) (x : Kept) → IsAsLeft f g → IsAccountedFor m f x → IsAccountedFor (open_leb head lnum m) g x
open_one m head lnum f g x same h = follows m (open_leb head lnum m) f g x (record { live = refl; held = refl; moved = opened_moved head m.moving f g x same.copies; left = left_as f g x same }) h

pub open_accounted : (m : Store) (head lnum : ℕ) → OfBoth m (AreAccountedFor m) → OfBoth (open_leb head lnum m) (AreAccountedFor (open_leb head lnum m))
open_accounted m head lnum h = (each_weaker (IsAccountedFor m (faced_now m)) (IsAccountedFor k (faced_now k)) (λ x g. open_one m head lnum (faced_now m) (faced_now k) x (opened_now m head lnum) g) m.now.kept h.0, by m.next h.1)
  where
    k : Store
    k = open_leb head lnum m

    by : (next : Option Next) → OfNext m next (AreAccountedFor m) → OfNext k (option_map (in_next (λ buds. buds ++ new_bud head lnum 0 ∷ []) 0) next) (AreAccountedFor k)
    by None g = tt
    by (Some next) g =
        let after : Next = in_next (λ buds. buds ++ new_bud head lnum 0 ∷ []) 0 next in
        each_weaker (IsAccountedFor m (faced_later m next)) (IsAccountedFor k (faced_later k after)) (λ x g. open_one m head lnum (faced_later m next) (faced_later k after) x (opened_later m head lnum next) g) next.view.kept g

-- ---- a commit starts: all live leaves are committed
pub start_accounted : (m : Store) (taken : List ℕ) → CanStart m taken → OfBoth m (AreAccountedFor m) → OfBoth (start taken m) (AreAccountedFor (start taken m))
start_accounted m taken can h = (
  each_weaker (IsAccountedFor m (faced_now m)) (IsAccountedFor k (faced_now k)) (λ x g. follows m k (faced_now m) (faced_now k) x (record { live = refl; held = refl; moved = λ moved. moved_as x m.moving moved; left = left_as (faced_now m) (faced_now k) x same }) g) m.now.kept h.0,
  each_weaker (IsLeafOf m.live) (IsAccountedFor k _) (λ x live. inl live) m.live (all_leaves m.live),
)
  where
    k : Store
    k = start taken m

    same : IsAsLeft (faced_now m) (faced_now k)
    same = record { tree = refl; copies = refl; synced = refl; heads = refl; lists = sym (ap (λ (o : Option Next). m.listed ∷ next_lists o) can.idle) }

    moved_as : (x : Kept) (moving : Option Moving) → IsMoved moving (faced_now m) x → IsMoved moving (faced_now k) x
    moved_as x None moved = moved
    moved_as x (Some moving) moved = moved

-- ---- a LEB of its index is written
pub write_accounted : (m : Store) (next : Option Next) → m.next ≡ next → OfBoth m (AreAccountedFor m) → OfBoth (write_index m next) (AreAccountedFor (write_index m next))
write_accounted m None e h = h
write_accounted m (Some next) e h = (
  each_weaker (IsAccountedFor m (faced_now m)) (IsAccountedFor k (faced_now k)) (λ x g. follows m k (faced_now m) (faced_now k) x (record { live = refl; held = refl; moved = λ moved. moved_as x m.moving moved; left = left_as (faced_now m) (faced_now k) x same }) g) m.now.kept h.0,
  each_weaker (IsAccountedFor m (faced_later m next)) (IsAccountedFor k (faced_later k after)) (λ x g. follows m k (faced_later m next) (faced_later k after) x (record { live = refl; held = refl; moved = λ moved. later_as x m.moving moved; left = λ left. left }) g) next.view.kept
      (subst (λ (o : Option Next). OfNext m o (AreAccountedFor m)) e h.1),
)
  where
    k : Store
    k = write_index m (Some next)

    after : Next
    after = record next { written = next.written + 1 }

    same : IsAsLeft (faced_now m) (faced_now k)
    same = record { tree = refl; copies = refl; synced = refl; heads = refl; lists = sym (ap (λ (o : Option Next). m.listed ∷ next_lists o) e) }

    moved_as : (x : Kept) (moving : Option Moving) → IsMoved moving (faced_now m) x → IsMoved moving (faced_now k) x
    moved_as x None moved = moved
    moved_as x (Some moving) moved = moved

    later_as : (x : Kept) (moving : Option Moving) → IsMoved moving (faced_later m next) x → IsMoved moving (faced_later k after) x
    later_as x None moved = moved
    later_as x (Some moving) moved = moved

-- ---- its master is offered
pub offer_accounted : (m : Store) → IfRunning m (λ next. (next.written ≡ length next.taken) × (next.offered ≡ false)) → IsStore m → OfBoth (offer m) (AreAccountedFor (offer m))
offer_accounted m runs s = (by m.next refl s.orphans.later runs, later m.next s.accounted.1)
  where
    k : Store
    k = offer m

    moved_as : (x : Kept) (moving : Option Moving) → IsMoved moving (faced_now m) x → IsMoved moving (faced_now k) x
    moved_as x None moved = moved
    moved_as x (Some moving) moved = moved

    by : (o : Option Next) → m.next ≡ o → KeepOrphans m o → IfRunning m (λ next. (next.written ≡ length next.taken) × (next.offered ≡ false)) → AreAccountedFor k (faced_now k)
    by None e orphans run = absurd (rw e at run)
    by (Some next) e orphans run = each_weaker (IsAccountedFor m (faced_now m)) (IsAccountedFor k (faced_now k)) (λ x g. follows m k (faced_now m) (faced_now k) x (record {
      live = refl;
      held = refl;
      moved = λ moved. moved_as x m.moving moved;
      left = λ left. (offer_left m next e s.views.committed.0 orphans.0 x.leaf.lnum (x ∷ []) (λ at. left, tt)).0 refl;
    }) g) m.now.kept s.accounted.0

    later_as : (next : Next) (x : Kept) (moving : Option Moving) → IsMoved moving (faced_later m next) x → IsMoved moving (faced_later k (offered next)) x
    later_as next x None moved = moved
    later_as next x (Some moving) moved = moved

    later : (o : Option Next) → OfNext m o (AreAccountedFor m) → OfNext k (option_map offered o) (AreAccountedFor k)
    later None h = tt
    later (Some next) h = each_weaker (IsAccountedFor m (faced_later m next)) (IsAccountedFor k (faced_later k (offered next))) (λ x g. follows m k (faced_later m next) (faced_later k (offered next)) x (record { live = refl; held = refl; moved = λ moved. later_as next x m.moving moved; left = λ left. left }) g) next.view.kept h

-- ---- it ends
pub end_accounted : (m : Store) (next : Option Next) → m.next ≡ next → OfBoth m (AreAccountedFor m) → OfBoth (end_commit m next) (AreAccountedFor (end_commit m next))
end_accounted m None e h = h
end_accounted m (Some next) e h = (
  each_weaker (IsAccountedFor m (faced_later m next)) (IsAccountedFor k (faced_now k)) (λ x g. follows m k (faced_later m next) (faced_now k) x (record { live = refl; held = refl; moved = λ moved. moved_as x m.moving moved; left = λ left. left }) g) next.view.kept
      (subst (λ (o : Option Next). OfNext m o (AreAccountedFor m)) e h.1),
  tt,
)
  where
    k : Store
    k = end_commit m (Some next)

    moved_as : (x : Kept) (moving : Option Moving) → IsMoved moving (faced_later m next) x → IsMoved moving (faced_now k) x
    moved_as x None moved = moved
    moved_as x (Some moving) moved = moved
