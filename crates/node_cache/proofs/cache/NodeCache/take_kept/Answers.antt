use Rattle.node_cache.specs.Kept.{branch_place}
use Rattle.node_cache.proofs.KeptNodes.{kept_node, kept_without}
use Rattle.node_cache.proofs.cache.NodeCache.take_kept.Goals as goal

pub returns-clause-node : goal.returns-clause-node
returns-clause-node c = λ contents kept. kept_node contents c.args.self.now.nodes (branch_place c.args.branch.now) c.pop.result c.pop.ensures.value kept

pub returns-clause-kept : goal.returns-clause-kept
returns-clause-kept c = λ contents kept. kept_without contents c.args.self.now.nodes c.pop.new.self (branch_place c.args.branch.now) c.pop.ensures.entries kept
