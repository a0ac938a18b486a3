use Rattle.std.proofs.Common.{rules}
use Rattle.node_cache.proofs.KeptNodes.{none_kept}
use Rattle.node_cache.proofs.cache.NodeCache.clear.Goals as goal

pub returns-clause-kept : goal.returns-clause-kept
returns-clause-kept c = λ contents. none_kept contents c.clear.new.self (search rules)
