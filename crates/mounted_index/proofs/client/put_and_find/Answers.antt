use Rattle.std.proofs.Common.{◌≡◌, List, ap, ◌∙◌, subst}
use Rattle.std.specs.Prelude.{IfOk, None, slice_get}
use Rattle.index_tree.specs.Order.{leaf_rank, of_rank, placed}
use Rattle.index_tree.specs.Shape.{Shape, contents}
use Rattle.index_tree.specs.declared.leaf.Leaf.{Leaf}
use Rattle.index_media.specs.KeyedRow.{all_clean, bare}
use Rattle.index_media.specs.PlacedRow.{plain}
use Rattle.node_table.specs.Changing.{changed_row}
use Rattle.node_table.specs.declared.change.Change.TheVariants.{Insert}
use Rattle.mounted_index.proofs.client.put_and_find.Goals as goal

pub change-requires-clause-shown : goal.change-requires-clause-shown
change-requires-clause-shown g c = let own = c.requires.index in (all_clean own.0, c.in_ok-index.ensures.shown own.0 own.1)

pub find-requires : goal.find-requires
find-requires g c =
    let own = c.requires.index in
    let row = all_clean own.0 in
    record { shown = (changed_row c.in_ok-index.index.geometry.fanout (Insert c.args.leaf) row, (c.in_ok-change.ensures.changed row (c.in_ok-index.ensures.shown own.0 own.1)).done) }

pub returns : goal.returns
returns g c = record {
  found = λ row on.
      let leaf = c.args.leaf in
      let f = c.in_ok-index.index.geometry.fanout in
      let law = c.an_insertion_goes_by_the_keys_of_branches.ensures in
      let made = changed_row f (Insert leaf) (all_clean row) in
      let e : contents (bare made) ≡ placed leaf (contents (plain row)) =
      law.contents f leaf 0 None (all_clean row) (law.bounded 0 None row on.index.bounded) ∙ ap (λ (s : Shape). placed leaf (contents s)) (law.clean row) in
      let P : List Leaf → Type 0 = λ xs. IfOk c.find.result (λ found. found ≡ slice_get (of_rank (leaf_rank leaf) xs) 0) in
      subst P e (c.find.ensures.found made (c.in_ok-change.ensures.changed (all_clean row) (c.in_ok-index.ensures.shown row on)).done);
}
