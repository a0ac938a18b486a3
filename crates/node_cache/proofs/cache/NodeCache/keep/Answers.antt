use Rattle.node_cache.specs.Kept.{branch_place}
use Rattle.node_cache.proofs.KeptNodes.{kept_as, kept_with}
use Rattle.node_cache.proofs.cache.NodeCache.keep.Goals as goal

pub returns-in-Ok : goal.returns-in-Ok
returns-in-Ok c = record { kept = λ contents kept is. kept_with contents c.args.self.now.nodes c.put.new.self (branch_place c.args.branch.now) c.args.node c.in-Ok.ensures.entries kept is }

pub returns : goal.returns
returns c = record { kept = λ contents kept is. kept_as contents c.args.self.now.nodes c.put.new.self c.in-Err.ensures.err kept }
