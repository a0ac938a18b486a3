use Rattle.table_nodes.specs.NodeViewLaws.{root_fits}
use Rattle.node_table.proofs.table.NodeTable.trees_fit.Goals as goal

pub returns : goal.returns
returns c = λ root h. root_fits c.args.self.now.fanout c.args.self.now.nodes.items root c.args.self.now.sound h
