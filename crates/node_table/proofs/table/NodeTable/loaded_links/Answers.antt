use Rattle.std.proofs.Common.{None, ap, sym, subst, ◌∙◌}
use Rattle.index_media.specs.KeyedKeys.{AreKeysBounded}
use Rattle.index_media.specs.KeyedRow.{KeyedRow}
use Rattle.table_nodes.specs.NodeView.{node_view_of, node_views, row_of, children_in}
use Rattle.table_nodes.specs.NodeViewLaws.{none_opened, opened, sound_at}
use Rattle.table_nodes.specs.StubLaws.{linked_row}
use Rattle.table_nodes.specs.Stubs.{unplaced}
use Rattle.node_table.specs.UnloadedLaws.{unplaced_row}
use Rattle.node_table.proofs.table.NodeTable.loaded_links.Goals as goal

pub returns-in-None-clause-none : goal.returns-in-None-clause-none
returns-in-None-clause-none c = none_opened c.args.self.now.nodes.items c.args.number c.in-None.ensures.none

pub returns-in-Some-clause-some : goal.returns-in-Some-clause-some
returns-in-Some-clause-some c =
    let s = c.args.self.now in
    let nodes = s.nodes.items in
    let n = c.in-Some.node.now in
    let there = c.in-Some.ensures.some in
    ap children_in (opened s.fanout nodes c.args.number n s.sound there) ∙ linked_row (node_views nodes) n (c.requires.loaded n there) ∙ ap (λ v. row_of (node_views nodes) v) (sym c.as_slice.ensures.value)

pub returns-in-Some-clause-bounded : goal.returns-in-Some-clause-bounded
returns-in-Some-clause-bounded c =
    let s = c.args.self.now in
    let nodes = s.nodes.items in
    let n = c.in-Some.node.now in
    let there = c.in-Some.ensures.some in
    let own = sound_at s.fanout (node_views nodes) c.args.number (node_view_of (node_views nodes) n) s.sound (opened s.fanout nodes c.args.number n s.sound there) in
    let P : KeyedRow → Type 0 = λ r. AreKeysBounded 0 None r in
    subst P (linked_row (node_views nodes) n (c.requires.loaded n there) ∙ ap (λ v. row_of (node_views nodes) v) (sym c.as_slice.ensures.value)) own.2

pub returns-in-Some-clause-unplaced : goal.returns-in-Some-clause-unplaced
returns-in-Some-clause-unplaced c =
    let s = c.args.self.now in
    let nodes = s.nodes.items in
    let n = c.in-Some.node.now in
    let there = c.in-Some.ensures.some in
    unplaced_row s.fanout nodes c.args.number n s.sound there (c.requires.loaded n there) ∙ ap (λ v. row_of (node_views (unplaced nodes)) v) (sym c.as_slice.ensures.value)
