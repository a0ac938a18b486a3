use Rattle.caller_tests.proofs.gate_tests.worked_on_fresh.Goals as goal

pub worked_beside-requires-clause-job : goal.worked_beside-requires-clause-job
worked_beside-requires-clause-job g c κs within = c.in_ok-word.ensures.job
