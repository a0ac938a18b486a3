-- A commit's start leaves a store settled: with what was taken as many LEBs are empty as before.
use Rattle.std.proofs.Common.{◌≡◌, ◌≤◌, ◌+◌, ◌∙◌, ℕ, arith, Bool, true, false, cond, List, [], ◌∷◌, map, refl, ap, subst, Option}
use Rattle.ubifs_base.specs.declared.raw_geometry.RawGeometry.{RawGeometry}
use Rattle.media_lpt.specs.declared.leb_kind.LebKind.TheVariants as kind
use Rattle.fs_model.specs.declared.space.Space.{Space}
use Rattle.fs_model.specs.Settled.{IsSettled}
use Rattle.space_sums.specs.Spaces.{at_cut, IsNextIndex, IsSettledTwice, Running, with_empty}
use Rattle.store_model.specs.Events.{start, view_now, next_list}
use Rattle.store_model.specs.Invariant.{HasNextIndex, IsStore}
use Rattle.store_model.specs.Lebs.{is_among, is_role, IsSettledWith, IsStoreSettled, lent, running_commit_of, space_of}
use Rattle.store_model.specs.Legal.{CanStart}
use Rattle.store_model.specs.Store.{Next, Store}
use Rattle.store_model.proofs.GrantCounts.{start_index}
use Rattle.store_model.proofs.LebCounts.{count_rows, row_count}
use Rattle.store_model.proofs.LebRows.{numbers_of, Row, rows, to_rows}
use Rattle.store_model.proofs.LebStarts.{take_row, take_rows}
use Rattle.store_model.proofs.NextIndexes.{num_among}
use Rattle.store_model.proofs.SettledSteps.{num_count}

-- an empty LEB is empty still, or was taken
free_left : (taken : List ℕ) (rs : List Row) → row_count kind.Free rs ≤ row_count kind.Free (map (take_row taken) rs) + num_count (is_among taken) (numbers_of rs)
free_left taken [] = omega arith
free_left taken (r ∷ rs) = by (free_left taken rs) (is_among taken r.0) (is_role kind.Free r.1) refl
  where
    by : row_count kind.Free rs ≤ row_count kind.Free (map (take_row taken) rs) + num_count (is_among taken) (numbers_of rs) → (a b : Bool) → is_role kind.Free r.1 ≡ b
        → cond b (1 + row_count kind.Free rs) (row_count kind.Free rs)
        ≤ row_count kind.Free (cond {A = Row} a (r.0, kind.Taken) r ∷ map (take_row taken) rs) + cond a (1 + num_count (is_among taken) (numbers_of rs)) (num_count (is_among taken) (numbers_of rs))
    by rest true true e = omega (arith, rest)
    by rest true false e = omega (arith, rest)
    by rest false true e = rw e (omega (arith, rest))
    by rest false false e = rw e rest

pub start_settled : ((geo : RawGeometry) (next : Running) (space : Space) → IsNextIndex geo next space → IsSettled geo (at_cut next space) → IsSettledTwice geo next space) → (m : Store) (taken : List ℕ) → CanStart m taken → IsStore m
    → HasNextIndex (start taken m) (start taken m).next → IsStoreSettled (start taken m)
start_settled law m taken can s small =
    let k : Store = start taken m in
    let next : Next = record { view = view_now m taken; taken = taken; written = 0; listed = next_list m; offered = false } in
    let old : IsSettled m.geo (with_empty (lent m.moving) (space_of m)) = subst (λ (o : Option Next). IsSettledWith m (with_empty (lent m.moving) (space_of m)) o) can.idle s.settled in
    let none = can.unlent in
    let left = free_left taken (rows m.lebs) in
    let most = num_among taken (numbers_of (rows m.lebs)) (to_rows m s.apart).numbers in
    let now = count_rows kind.Free k.lebs ∙ ap (row_count kind.Free) (take_rows taken m.lebs) in
    let before = count_rows kind.Free m.lebs in
    let a = old.empty in
    let b = old.index in
    let index = start_index m taken can s.apart in
    law m.geo (running_commit_of k next) (with_empty (lent m.moving) (space_of k)) (record { lebs = small.lebs; weight = small.weight }) (record { empty = omega (arith, a, none, left, most, now, before); index = omega (arith, b, index, none, left, most, now, before) })
