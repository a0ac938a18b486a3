use Rattle.std.proofs.Common.{◌≡◌, None, fold, drop}
use Rattle.image_check.specs.WrongValues.{sooner_of}
use Rattle.shown_leaves.specs.Told.{unchanging_told}
use Rattle.shown_leaves.proofs.unchanging.first_told.Given as goal

abbrev pub invariant-loop-node : goal.invariant-loop-node
invariant-loop-node l = fold (λ first x. sooner_of first (unchanging_told x)) l.first (drop l.node-index l.nodes) ≡ fold (λ first x. sooner_of first (unchanging_told x)) None l.nodes
