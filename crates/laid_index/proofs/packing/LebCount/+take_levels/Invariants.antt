use Rattle.laid_index.proofs.packing.LebCount.+take_levels.Given as goal

abbrev pub decreases-take_levels : goal.decreases-take_levels
decreases-take_levels l = l.n
