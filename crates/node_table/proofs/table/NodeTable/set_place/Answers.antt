use Rattle.std.proofs.Common.{ℕ, List, ap, sym, ◌∙◌, subst}
use Rattle.std.specs.Prelude.{slice_get}
use Rattle.table_nodes.specs.Clean.{are_clean_below}
use Rattle.node_table.specs.Dirty.{dirty_below, dirty_lists}
use Rattle.node_table.specs.Placing.{IsPlacedRow}
use Rattle.table_nodes.specs.NodeView.{node_views, children_in, tree_at}
use Rattle.table_nodes.specs.Sound.{AreSoundViews}
use Rattle.table_nodes.specs.Stubs.{unplaced}
use Rattle.node_table.specs.Staging.{IsSoundRoot}
use Rattle.node_table.specs.Bounds.{AreNoLonger}
use Rattle.node_table.specs.Unloaded.{are_loaded_if_dirty}
use Rattle.table_nodes.specs.declared.node.TableNode.{TableNode}
use Rattle.node_table.proofs.Bounded.{few_without}
use Rattle.node_table.proofs.GivenPlaces.{with_loaded_if_dirty}
use Rattle.node_table.proofs.PlacedTable.{table_placed}
use Rattle.node_table.proofs.table.NodeTable.set_place.Goals as goal

pub invariant_of-self-clause-sound : goal.invariant_of-self-clause-sound
invariant_of-self-clause-sound c =
    let s = c.args.self.now in
    subst (λ ns. AreSoundViews s.fanout (node_views ns)) (sym c.put_place.ensures) (table_placed s.fanout s.nodes.items c.args.number c.args.place s.sound s.clean s.dirty c.requires.ready).sound

pub invariant_of-self-clause-clean : goal.invariant_of-self-clause-clean
invariant_of-self-clause-clean c =
    let s = c.args.self.now in
    ap (λ ns. are_clean_below (node_views ns)) c.put_place.ensures ∙ (table_placed s.fanout s.nodes.items c.args.number c.args.place s.sound s.clean s.dirty c.requires.ready).settled

pub invariant_of-self-clause-dirty : goal.invariant_of-self-clause-dirty
invariant_of-self-clause-dirty c =
    let s = c.args.self.now in
    ap are_loaded_if_dirty c.put_place.ensures ∙ with_loaded_if_dirty c.args.number c.args.place s.nodes.items s.dirty

pub returns-clause-unplaced : goal.returns-clause-unplaced
returns-clause-unplaced c =
    let s = c.args.self.now in
    ap unplaced c.put_place.ensures ∙ (table_placed s.fanout s.nodes.items c.args.number c.args.place s.sound s.clean s.dirty c.requires.ready).unplaced

pub invariant_of-self-clause-few : goal.invariant_of-self-clause-few
invariant_of-self-clause-few c =
    let s = c.args.self.now in
    let P : List (List ℕ) → Type 0 = λ ds. AreNoLonger ds s.most_dirty.items in
    let lists = ap dirty_lists c.put_place.ensures ∙ (table_placed s.fanout s.nodes.items c.args.number c.args.place s.sound s.clean s.dirty c.requires.ready).lists in
    subst P (sym lists) (few_without c.args.number (dirty_lists s.nodes.items) s.most_dirty.items s.few)

pub returns-clause-trees : goal.returns-clause-trees
returns-clause-trees c = λ root.
    let s = c.args.self.now in
    let P : List TableNode → Type 0 = λ ns. IsPlacedRow c.args.place (children_in (slice_get (node_views s.nodes.items) c.args.number)) (tree_at s.nodes.items root) (tree_at ns root) in
    subst P (sym c.put_place.ensures) ((table_placed s.fanout s.nodes.items c.args.number c.args.place s.sound s.clean s.dirty c.requires.ready).trees root)

pub returns-clause-dirty : goal.returns-clause-dirty
returns-clause-dirty c = λ root.
    let s = c.args.self.now in
    ap (λ ns. dirty_below ns root) c.put_place.ensures ∙ (table_placed s.fanout s.nodes.items c.args.number c.args.place s.sound s.clean s.dirty c.requires.ready).dirty root

pub returns-clause-roots : goal.returns-clause-roots
returns-clause-roots c = λ root h.
    let s = c.args.self.now in
    subst (λ ns. IsSoundRoot ns root) (sym c.put_place.ensures) ((table_placed s.fanout s.nodes.items c.args.number c.args.place s.sound s.clean s.dirty c.requires.ready).roots root h)
