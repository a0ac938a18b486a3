-- A commit's end, as a backing's.
use Rattle.std.proofs.Common.{◌≡◌, ℕ, ◌-◌, arith, List, [], ◌∷◌, ◌++◌, length, drop, map, refl, sym, ap, subst, ◌∙◌, length-append, Option, Some, None}
use Rattle.std.specs.Prelude.{get_or}
use Rattle.std.specs.Option.{option_map_or}
use Rattle.std.proofs.lemmas.List.{map-append}
use Rattle.fs_model.specs.Backing.{IsCommitted, KeepsFiles}
use Rattle.fs_model.specs.Files.{Tree}
use Rattle.fs_model.specs.Journal.{later_groups}
use Rattle.fs_model.specs.Orphan.{without_nameless}
use Rattle.fs_model.specs.Recovery.{Numbered}
use Rattle.store_model.specs.Backing.{Outside, backing_of, begun_groups}
use Rattle.store_model.specs.Events.{end_commit}
use Rattle.store_model.specs.Heads.{groups_of_head, heads_of, numbered_group}
use Rattle.store_model.specs.Invariant.{CameSince, HasSince, IsSince}
use Rattle.store_model.specs.Store.{Carried, Next, Store}
use Rattle.store_model.proofs.BackingCalls.{length_map}

drop_front : {X : Type 0} (front rest : List X) → drop (length front) (front ++ rest) ≡ rest
drop_front [] rest = refl
drop_front (x ∷ front) rest = drop_front front rest

-- the groups since a commit began are those of its view
groups_left : (all last : List (List Carried)) (n : ℕ) → CameSince all last n → map numbered_group last ≡ drop (length all - length last) (map numbered_group all)
groups_left all last n c =
    let long = ap length c.is ∙ length-append c.before last in
    let begun : length all - length last ≡ length (map numbered_group c.before) = let same = length_map numbered_group c.before in omega (arith, long, same) in
    sym (ap (λ (k : ℕ). drop k (map numbered_group all)) begun ∙ ap (λ (z : List (List Carried)). drop (length (map numbered_group c.before)) (map numbered_group z)) c.is
    ∙ ap (drop (length (map numbered_group c.before))) (map-append numbered_group c.before last) ∙ drop_front (map numbered_group c.before) (map numbered_group last))

ended : (m : Store) (next : Next) (outside : Outside) → m.next ≡ Some next → IsSince m next.view → IsCommitted (backing_of m outside) (backing_of (end_commit m (Some next)) outside)
ended m next outside e s = record {
  running = refl;
  nodes = sym (ap later_of e);
  committed = sym (ap (started_of m) e);
  heads =
      ap (λ (z : List Numbered). [] ∷ z ∷ map numbered_group (groups_of_head 2 next.view.buds) ∷ []) (groups_left (groups_of_head 1 m.now.buds) (groups_of_head 1 next.view.buds) (get_or m.synced 1 0) s.base)
      ∙ ap (λ (z : List Numbered). [] ∷ drop (length (groups_of_head 1 m.now.buds) - length (groups_of_head 1 next.view.buds)) (map numbered_group (groups_of_head 1 m.now.buds)) ∷ z ∷ []) (groups_left (groups_of_head 2 m.now.buds) (groups_of_head 2 next.view.buds) (get_or m.synced 2 0) s.data_nodes)
      ∙ sym (ap (λ (o : Option Next). later_groups (heads_of m.now.buds m.synced) (begun_groups m o)) e);
}
  where
    later_of : Option Next → ℕ
    later_of o = option_map_or (λ next. next.view.put) o 0

    started_of : Store → Option Next → Tree
    started_of m o = without_nameless (option_map_or (λ next. next.view.tree) o m.now.tree)

pub end_is : (m : Store) (next : Next) (outside : Outside) → m.next ≡ Some next → HasSince m m.next → IsCommitted (backing_of m outside) (backing_of (end_commit m m.next) outside)
end_is m next outside e s =
    subst (λ (o : Option Next). IsCommitted (backing_of m outside) (backing_of (end_commit m o) outside)) (sym e) (ended m next outside e (subst (λ (o : Option Next). HasSince m o) e s))

pub end_files : (m : Store) (outside : Outside) → KeepsFiles (backing_of m outside) (backing_of (end_commit m m.next) outside)
end_files m outside = by m.next
  where
    by : (o : Option Next) → KeepsFiles (backing_of m outside) (backing_of (end_commit m o) outside)
    by None = record { tree = refl; credits = refl; grant = refl; held = omega arith; closed = omega arith }
    by (Some next) = record { tree = refl; credits = refl; grant = refl; held = omega arith; closed = omega arith }
