use Rattle.node_table.specs.Dirty.{dirty_lists}
use Rattle.node_table.proofs.Bounded.{among_both, among_none}
use Rattle.node_table.proofs.table.NodeTable.+most_dirty_among.Goals as goal

pub returns-in-None : goal.returns-in-None
returns-in-None t c = among_none (dirty_lists c.args.self.now.nodes.items) c.args.links.now c.in-None.ensures.cases

pub returns-in_ok-others-in-Some : goal.returns-in_ok-others-in-Some
returns-in_ok-others-in-Some t c =
    among_both (dirty_lists c.args.self.now.nodes.items) c.args.links.now c.in-Some.rest.now c.in-Some.link.now c.most_dirty_of.result c.in_ok-others-in-Some.others c.sum_of.result
    c.in-Some.ensures.cases.0 c.most_dirty_of.ensures c.in_ok-others-in-Some.ensures c.sum_of.ensures
