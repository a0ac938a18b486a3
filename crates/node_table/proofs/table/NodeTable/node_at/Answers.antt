use Rattle.std.proofs.Common.{ap, ◌∙◌}
use Rattle.table_nodes.specs.NodeView.{node_views, node_view_of, children_in}
use Rattle.table_nodes.specs.NodeViewLaws.{opened, sound_at, not_there}
use Rattle.table_nodes.specs.StubLaws.{linked_row}
use Rattle.node_table.proofs.table.NodeTable.node_at.Goals as goal

pub returns-in-Some-clause-seen : goal.returns-in-Some-clause-seen
returns-in-Some-clause-seen c =
    let s = c.args.self.now in
    opened s.fanout s.nodes.items c.args.number c.in-Some.node.now s.sound c.in-Some.ensures.some

pub returns-in-Some-clause-sound : goal.returns-in-Some-clause-sound
returns-in-Some-clause-sound c =
    let s = c.args.self.now in
    let n = c.in-Some.node.now in
    sound_at s.fanout (node_views s.nodes.items) c.args.number (node_view_of (node_views s.nodes.items) n) s.sound (opened s.fanout s.nodes.items c.args.number n s.sound c.in-Some.ensures.some)

pub returns-in-None-clause-unseen : goal.returns-in-None-clause-unseen
returns-in-None-clause-unseen c = not_there c.args.self.now.nodes.items c.args.number c.in-None.ensures.none

pub returns-in-Some-clause-linked : goal.returns-in-Some-clause-linked
returns-in-Some-clause-linked c = λ loaded.
    let s = c.args.self.now in
    let n = c.in-Some.node.now in
    ap children_in (opened s.fanout s.nodes.items c.args.number n s.sound c.in-Some.ensures.some) ∙ linked_row (node_views s.nodes.items) n loaded
