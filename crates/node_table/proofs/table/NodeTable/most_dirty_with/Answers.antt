use Rattle.std.proofs.Common.{◌∙◌, sym}
use Rattle.node_table.specs.Dirty.{dirty_among, dirty_lists}
use Rattle.node_table.proofs.Bounded.{clean_most, node_most}
use Rattle.node_table.proofs.table.NodeTable.most_dirty_with.Goals as goal

pub returns-then-is_some : goal.returns-then-is_some
returns-then-is_some c = clean_most c.args.node.now.place (dirty_among (dirty_lists c.args.self.now.nodes.items) c.args.node.now.links.items) (sym c.is_some.ensures ∙ c.if-is_some.true)

pub returns : goal.returns
returns c =
    node_most c.args.node.now.place (dirty_lists c.args.self.now.nodes.items) c.as_slice.result.now c.args.node.now.links.items c.in_ok-below.below c.sum_of.result c.as_slice.ensures.value c.in_ok-below.ensures c.sum_of.ensures
