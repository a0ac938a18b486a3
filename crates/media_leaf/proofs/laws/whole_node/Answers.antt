use Rattle.media_leaf.proofs.LeafLaws.{whole}
use Rattle.media_leaf.proofs.laws.whole_node.Goals as goal

pub returns : goal.returns
returns c = whole
