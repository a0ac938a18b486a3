-- A running commit keeps the LEBs that it took through its own events and those of a collection.
use Rattle.std.proofs.Common.{◌≡◌, ◌<◌, ◌∙◌, ℕ, arith, false, true, [], ◌∷◌, ◌++◌, length, refl, subst, Option, Some, None}
use Rattle.std.specs.Prelude.{get_or}
use Rattle.std.specs.List.{flat_map}
use Rattle.std.specs.Option.{option_map}
use Rattle.media_lpt.specs.declared.leb_kind.LebKind.TheVariants as kind
use Rattle.store_model.specs.Events.{begin, Copying, end_at, end_commit, free_victim, move, node_items, offer, offered, view_branchings, write_index}
use Rattle.store_model.specs.Heads.{with_copy}
use Rattle.store_model.specs.Invariant.{AreRolesApart, IsTaking}
use Rattle.store_model.specs.Lebs.{has_role}
use Rattle.store_model.specs.Legal.{IfRunning}
use Rattle.store_model.specs.Store.{Bud, Moving, Next, Store}
use Rattle.store_model.proofs.LebCollections.{free_keeps, free_row, free_rows}
use Rattle.store_model.proofs.LebEnds.{set_rows}
use Rattle.store_model.proofs.LebMoves.{changed_all, moved_rows}
use Rattle.store_model.proofs.LebRows.{all_weaker, has_row, rows, to_rows, victim_row}
use Rattle.store_model.proofs.LebTaking.{KeepsBuds, of_rows, of_same, taking_buds, taking_same}

pub begin_taking : (m : Store) (victim : ℕ) → IsTaking m m.next → IsTaking (begin victim m) (begin victim m).next
begin_taking m victim t = taking_same m (begin victim m) m.next (λ n h. h) (λ n h. h) (λ n h. h) t

pub move_taking : (m : Store) (c : Copying) → IsTaking m m.next → IsTaking (move c m) (move c m).next
move_taking m c t =
    let k : Store = move c m in
    let same = moved_rows m c (end_at m.ends 0) refl in
    let buds : KeepsBuds (with_copy c.copy) m k = λ buds h.
    changed_all (λ bud. has_role kind.Bud k.lebs bud.lnum) (λ bud. record bud { copies = bud.copies ++ c.copy ∷ [] }) (λ bud. refl) 0 buds
    ∙ all_weaker (λ (bud : Bud). has_role kind.Bud m.lebs bud.lnum) (λ bud. has_role kind.Bud k.lebs bud.lnum) (λ bud e. of_same kind.Bud m k same bud.lnum e) buds h in
    taking_buds (with_copy c.copy) 0 m k m.next (of_same kind.Taken m k same) (of_same kind.Index m k same) buds t

freed_taking : (m : Store) (moving : Moving) → m.moving ≡ Some moving → AreRolesApart m → IsTaking m m.next → IsTaking (free_victim m (Some moving)) m.next
freed_taking m moving e a t =
    let k : Store = free_victim m (Some moving) in
    let r = to_rows m a in
    let v : ℕ = moving.victim in
    let leaf : has_row kind.Leaf (rows m.lebs) v ≡ true = subst (λ (o : Option Moving). victim_row (rows m.lebs) o ≡ true) e r.victim in
    taking_same m k m.next
    (of_rows kind.Taken m k (free_row v) (free_rows v m.lebs) (λ n h. free_keeps kind.Taken v n (rows m.lebs) r.numbers leaf refl h))
    (of_rows kind.Index m k (free_row v) (free_rows v m.lebs) (λ n h. free_keeps kind.Index v n (rows m.lebs) r.numbers leaf refl h))
    (of_rows kind.Bud m k (free_row v) (free_rows v m.lebs) (λ n h. free_keeps kind.Bud v n (rows m.lebs) r.numbers leaf refl h)) t

pub free_taking : (m : Store) (moving : Option Moving) → m.moving ≡ moving → AreRolesApart m → IsTaking m m.next → IsTaking (free_victim m moving) (free_victim m moving).next
free_taking m None e a t = t
free_taking m (Some moving) e a t = freed_taking m moving e a t

pub write_taking : (m : Store) (next : Option Next) → m.next ≡ next → IfRunning m (λ next. next.written < length next.taken) → IsTaking m m.next → IsTaking (write_index m next) (write_index m next).next
write_taking m None e left t = t
write_taking m (Some next) e left t =
    let k : Store = write_index m (Some next) in
    let lnum : ℕ = get_or next.taken next.written 0 in
    let same : rows k.lebs ≡ rows m.lebs = set_rows lnum (flat_map (node_items m.geo) (view_branchings next.view lnum m.sqnum)) m.lebs in
    let old : IsTaking m (Some next) = subst (λ (o : Option Next). IsTaking m o) e t in
    let some : next.written < length next.taken = rw e at left in
    let now = taking_same m k (Some next) (of_same kind.Taken m k same) (of_same kind.Index m k same) (of_same kind.Bud m k same) old in
    (now.0, now.1, omega (arith, some), now.3, λ done. let all = old.4 done in absurd (omega (arith, all, some)), now.5)

pub offer_taking : (m : Store) → IfRunning m (λ next. (next.written ≡ length next.taken) × (next.offered ≡ false)) → IsTaking m m.next → IsTaking (offer m) (offer m).next
offer_taking m can t = by m.next refl can t
  where
    by : (next : Option Next) → m.next ≡ next → IfRunning m (λ next. (next.written ≡ length next.taken) × (next.offered ≡ false)) → IsTaking m next → IsTaking (offer m) (option_map offered next)
    by None e can t = tt
    by (Some next) e can t = let all = rw e at can in (t.0, t.1, t.2, t.3, λ done. all.0, t.5)

pub end_taking : (m : Store) (next : Option Next) → IsTaking m m.next → IsTaking (end_commit m next) (end_commit m next).next
end_taking m None t = t
end_taking m (Some next) t = tt
