use Rattle.node_cache.proofs.KeptNodes.{kept_beside}
use Rattle.node_cache.proofs.laws.kept_nodes_stay.Goals as goal

pub returns : goal.returns
returns c = λ old new cache same kept. kept_beside old new cache.nodes same kept
