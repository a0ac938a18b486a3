use Rattle.image_maker.proofs.LeafCounts.{length-live_leaves, tree_lebs}
use Rattle.image_maker.proofs.TreeNodes.{some_leaf}
use Rattle.image_maker.proofs.law.leaves_of_a_tree_are_few.Goals as goal

pub returns-clause-some : goal.returns-clause-some
returns-clause-some c = some_leaf

pub returns-clause-count : goal.returns-clause-count
returns-clause-count c = length-live_leaves

pub returns-clause-lebs : goal.returns-clause-lebs
returns-clause-lebs c = tree_lebs
