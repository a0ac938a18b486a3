use Rattle.std.proofs.Common.{◌≡◌, List, ap, ◌∙◌, subst}
use Rattle.std.specs.Prelude.{None, slice_get}
use Rattle.index_tree.specs.Order.{leaf_rank, of_rank, placed}
use Rattle.index_tree.specs.Shape.{Shape, contents}
use Rattle.index_tree.specs.declared.leaf.Leaf.{Leaf}
use Rattle.index_media.specs.KeyedRow.{all_clean, bare}
use Rattle.index_media.specs.PlacedRow.{lebs_of, plain}
use Rattle.node_table.specs.Changing.{changed_row}
use Rattle.node_table.specs.declared.change.Change.TheVariants.{Insert}
use Rattle.mounted_index.specs.ShownLaws.{StandsIn-taken}
use Rattle.mounted_index.proofs.client.put_commit_and_find.Goals as goal

pub change-requires-clause-shown : goal.change-requires-clause-shown
change-requires-clause-shown g c = let own = c.requires.index in (all_clean own.0, c.in_ok-index.ensures.shown own.0 own.1)

pub commit-requires-clause-shown : goal.commit-requires-clause-shown
commit-requires-clause-shown g c =
    let own = c.requires.index in
    let a = g.V.Volume.state c.args.volume.now in
    let changed_well = c.in_ok-change.ensures.changed (all_clean own.0) (c.in_ok-index.ensures.shown own.0 own.1) in
    let stands = StandsIn-taken c.changes_keep_what_stands.ensures.loaded a c.args.geometry.now.fanout c.args.root.now own.0 own.1 in (
      changed_row c.in_ok-index.index.geometry.fanout (Insert c.args.leaf) (all_clean own.0),
      lebs_of own.0,
      record { shown = changed_well.done; stands = changed_well.stands (lebs_of own.0) stands; apart = own.2 },
    )

pub find-requires : goal.find-requires
find-requires g c =
    let own = c.requires.index in
    let a = g.V.Volume.state c.args.volume.now in
    let row = changed_row c.in_ok-index.index.geometry.fanout (Insert c.args.leaf) (all_clean own.0) in
    let changed_well = c.in_ok-change.ensures.changed (all_clean own.0) (c.in_ok-index.ensures.shown own.0 own.1) in
    let stands = StandsIn-taken c.changes_keep_what_stands.ensures.loaded a c.args.geometry.now.fanout c.args.root.now own.0 own.1 in
    let committed = c.in_ok-commit.ensures.committed row (lebs_of own.0) (record { shown = changed_well.done; stands = changed_well.stands (lebs_of own.0) stands; apart = own.2 }) in
    record { shown = (committed.now, committed.shown) }

pub returns : goal.returns
returns g c = record {
  found = λ row on apart.
      let a = g.V.Volume.state c.args.volume.now in
      let leaf = c.args.leaf in
      let f = c.in_ok-index.index.geometry.fanout in
      let law = c.an_insertion_goes_by_the_keys_of_branches.ensures in
      let made = changed_row f (Insert leaf) (all_clean row) in
      let changed_well = c.in_ok-change.ensures.changed (all_clean row) (c.in_ok-index.ensures.shown row on) in
      let stands = StandsIn-taken c.changes_keep_what_stands.ensures.loaded a c.args.geometry.now.fanout c.args.root.now row on in
      let committed = c.in_ok-commit.ensures.committed made (lebs_of row) (record { shown = changed_well.done; stands = changed_well.stands (lebs_of row) stands; apart = apart }) in
      let e : contents (bare made) ≡ placed leaf (contents (plain row)) =
      law.contents f leaf 0 None (all_clean row) (law.bounded 0 None row on.index.bounded) ∙ ap (λ (s : Shape). placed leaf (contents s)) (law.clean row) in
      let same : contents (bare committed.now) ≡ placed leaf (contents (plain row)) = ap contents (c.places_are_kept.ensures.shape made committed.now committed.places) ∙ e in
      let P : List Leaf → Type 0 = λ xs. c.in_ok-found.found ≡ slice_get (of_rank (leaf_rank leaf) xs) 0 in
      subst P same (c.in_ok-found.ensures.found committed.now committed.shown);
}
