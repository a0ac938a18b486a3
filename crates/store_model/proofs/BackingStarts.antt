-- A commit's start, as a backing's.
use Rattle.std.proofs.Common.{◌≡◌, ℕ, suc, ◌+◌, ◌-◌, arith, Bool, true, false, cond, List, [], ◌∷◌, length, map, refl, sym, ap, subst, ◌∙◌, Option, Some, None}
use Rattle.std.specs.Prelude.{◌==◌}
use Rattle.std.specs.List.{flat_map}
use Rattle.std.specs.Option.{option_map}
use Rattle.fs_model.specs.declared.backing_answers.Started.TheVariants.{Began}
use Rattle.fs_model.specs.Backing.{IsStarted, KeepsFiles}
use Rattle.fs_model.specs.Journal.{AreSynced, Leaves}
use Rattle.fs_model.specs.Orphan.{without_nameless}
use Rattle.leaf_map.specs.After.{used_by}
use Rattle.store_model.specs.Backing.{Outside, backing_of, begun_groups, store_journal_of}
use Rattle.store_model.specs.Events.{next_list, open_buds, start, view_now}
use Rattle.store_model.specs.Heads.{buds_of_head, groups_of_head, heads_of, numbered_group}
use Rattle.store_model.specs.Legal.{CanStart}
use Rattle.store_model.specs.Store.{At, Bud, Carried, Next, Store}
use Rattle.store_model.proofs.BackingCalls.{heads_synced, length_map, same_further}
use Rattle.store_model.proofs.Further.{further_left}

-- buds of a new section have no groups yet
pub no_groups : (head k : ℕ) (ends : List (Option At)) → groups_of_head head (open_buds k ends) ≡ []
no_groups head k [] = refl
no_groups head k (None ∷ ends) = no_groups head (suc k) ends
no_groups head k (Some at ∷ ends) = by (k == head) (no_groups head (suc k) ends)
  where
    rest : List Bud
    rest = buds_of_head head (open_buds (suc k) ends)

    by : (b : Bool) → flat_map (λ bud. bud.groups) rest ≡ [] → flat_map (λ bud. bud.groups) (cond b ((record { head = k; lnum = at.lnum; from = at.offs; groups = []; copies = [] }) ∷ rest) rest) ≡ []
    by true e = e
    by false e = e

begun_all : (m : Store) (next : Next) → length (groups_of_head 1 next.view.buds) ≡ 0 → length (groups_of_head 2 next.view.buds) ≡ 0
    → begun_groups m (Some next) ≡ map (λ head. length head.groups) (heads_of m.now.buds m.synced)
begun_all m next one two =
    let base = length_map numbered_group (groups_of_head 1 m.now.buds) in
    let other = length_map numbered_group (groups_of_head 2 m.now.buds) in
    let a : length (groups_of_head 1 m.now.buds) - length (groups_of_head 1 next.view.buds) ≡ length (map numbered_group (groups_of_head 1 m.now.buds)) = omega (arith, one, base) in
    let b : length (groups_of_head 2 m.now.buds) - length (groups_of_head 2 next.view.buds) ≡ length (map numbered_group (groups_of_head 2 m.now.buds)) = omega (arith, two, other) in
    ap (λ n. 0 ∷ n ∷ (length (groups_of_head 2 m.now.buds) - length (groups_of_head 2 next.view.buds)) ∷ []) a ∙ ap (λ n. 0 ∷ length (map numbered_group (groups_of_head 1 m.now.buds)) ∷ n ∷ []) b

abbrev next_of : Store → List ℕ → Next
next_of m taken = record { view = view_now m taken; taken = taken; written = 0; listed = next_list m; offered = false }

pub start_is : (m : Store) (taken : List ℕ) (outside : Outside) → CanStart m taken → IsStarted (backing_of m outside) (backing_of (start taken m) outside) Began
start_is m taken outside can = (
  ap (option_map (λ next. next.view.cmt_no)) can.idle,
  (m.now.cmt_no + 1, refl),
  refl,
  refl,
  record {
    started = refl;
    begun = begun_all (start taken m) (next_of m taken) (ap (λ (gs : List (List Carried)). length gs) (no_groups 1 0 m.ends)) (ap (λ (gs : List (List Carried)). length gs) (no_groups 2 0 m.ends));
  },
  record {
    held = ap used_by can.synced.none_held;
    heads = subst (λ (synced : List ℕ). AreSynced (heads_of m.now.buds synced)) (sym can.synced.counts) (heads_synced m.now.buds);
  },
)

pub start_files : (m : Store) (taken : List ℕ) (outside : Outside) → KeepsFiles (backing_of m outside) (backing_of (start taken m) outside)
start_files m taken outside = record { tree = refl; credits = refl; grant = refl; held = omega arith; closed = omega arith }

pub start_leaves : (m : Store) (taken : List ℕ) → Leaves (store_journal_of m) (store_journal_of (start taken m)) []
start_leaves m taken more tree left =
    further_left (without_nameless m.now.tree) m.sqnum (start taken m).sqnum (heads_of m.now.buds m.synced) (heads_of m.now.buds m.synced) more tree (omega arith) (same_further m.now.buds m.synced) left
