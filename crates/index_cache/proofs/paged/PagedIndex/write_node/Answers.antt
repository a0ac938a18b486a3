use Rattle.std.proofs.Common.{rules, ◌≡◌, true, ap, sym, ◌∙◌, arith}
use Rattle.std.specs.Prelude.{None}
use Rattle.index_media.specs.Clean.{placed_of}
use Rattle.index_media.specs.KeyedRow.{KeyedRow}
use Rattle.index_media.specs.PlacedRow.{branches_of}
use Rattle.media_sys.specs.Index.{in_order}
use Rattle.table_nodes.specs.BeyondLaws.{dirty_row}
use Rattle.table_nodes.specs.NodeView.{node_views, node_view_of}
use Rattle.node_table.proofs.Cleaning.{ready_node}
use Rattle.index_cache.proofs.Written.{few_links, says_node}
use Rattle.index_cache.proofs.paged.PagedIndex.write_node.Goals as goal

pub tell_node-requires : goal.tell_node-requires
tell_node-requires c =
    let t = c.args.self.now.table in
    let few = few_links t.fanout (node_views t.nodes.items) c.in-Some.found.now t.most c.in-Some.ensures.sound (dirty_row (node_views t.nodes.items) c.in-Some.found.now (ready_node t.fanout t.nodes.items c.args.node c.in-Some.found.now t.sound c.requires.next.ready c.in-Some.ensures.some).dirty) in
    let room = c.args.buffer.now.room in
    omega (arith, few, room)

pub encode-requires-clause-node : goal.encode-requires-clause-node
encode-requires-clause-node c =
    let t = c.args.self.now.table in
    let v = node_view_of (node_views t.nodes.items) c.in-Some.found.now in
    let row = dirty_row (node_views t.nodes.items) c.in-Some.found.now (ready_node t.fanout t.nodes.items c.args.node c.in-Some.found.now t.sound c.requires.next.ready c.in-Some.ensures.some).dirty in
    let said = c.tell_node.new.said in
    let yes : c.are_in_order.result ≡ true = search (rules, c.if-not-are_in_order.false) in
    let order : in_order None said.branches.items ≡ true = ap (in_order None) (sym c.as_slice.ensures.value) ∙ sym c.are_in_order.ensures ∙ yes in
    says_node t.fanout said.level v said.branches.items t.most c.in-Some.ensures.sound (c.tell_node.ensures.branches ∙ ap (λ (r : KeyedRow). branches_of (placed_of r)) (sym row)) order
