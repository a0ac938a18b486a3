use Rattle.media_leaf.proofs.LeafLaws.{one}
use Rattle.media_leaf.proofs.laws.one_node.Goals as goal

pub returns : goal.returns
returns c = one
