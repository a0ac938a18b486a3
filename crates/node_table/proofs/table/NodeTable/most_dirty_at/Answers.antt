use Rattle.node_table.specs.Dirty.{dirty_lists}
use Rattle.node_table.proofs.Bounded.{bound_past, bound_there}
use Rattle.node_table.proofs.table.NodeTable.most_dirty_at.Goals as goal

pub returns-in-None : goal.returns-in-None
returns-in-None c = bound_past (dirty_lists c.args.self.now.nodes.items) c.args.self.now.most_dirty.items c.args.number c.args.self.now.few c.in-None.ensures.none

pub returns-in-Some : goal.returns-in-Some
returns-in-Some c = bound_there (dirty_lists c.args.self.now.nodes.items) c.args.self.now.most_dirty.items c.args.number c.in-Some.most.now c.args.self.now.few c.in-Some.ensures.some
