use Rattle.node_cache.proofs.Forgotten.{kept_without_leb}
use Rattle.node_cache.proofs.cache.NodeCache.forget.Goals as goal

pub returns-clause-kept : goal.returns-clause-kept
returns-clause-kept c = λ old new same kept. kept_without_leb c.args.lnum old new c.args.self.now.nodes c.let_go.new.nodes c.let_go.ensures.rest same kept
