use Rattle.index_tests.proofs.commit_step_tests.+are_put_beside.Given as goal

abbrev pub decreases-are_put_beside : goal.decreases-are_put_beside
decreases-are_put_beside g l = l.count
