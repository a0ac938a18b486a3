use Rattle.std.proofs.Common.{length}
use Rattle.image_space.specs.Uses.{node_seen}
use Rattle.image_space.proofs.Marked.{MarkedSoFar}
use Rattle.image_space.proofs.marking.mark_nodes.Given as goal

-- what is left would make of the marks so far those of all
abbrev pub invariant-marking : goal.invariant-marking
invariant-marking l = MarkedSoFar node_seen l.first l.fn.uses.items l.uses.items l.left l.fn.nodes

abbrev pub decreases-marking : goal.decreases-marking
decreases-marking l = length l.left
