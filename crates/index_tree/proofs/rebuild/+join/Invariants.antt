use Rattle.index_tree.proofs.rebuild.+join.Given as goal

abbrev pub decreases-join : goal.decreases-join
decreases-join l = l.n
