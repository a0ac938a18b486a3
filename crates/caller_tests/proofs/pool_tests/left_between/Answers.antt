use Rattle.std.proofs.Common.{refl}
use Rattle.caller_tests.proofs.pool_tests.left_between.Goals as goal

pub left_in_pool-requires-clause-ledger : goal.left_in_pool-requires-clause-ledger
left_in_pool-requires-clause-ledger g c =
    let new = c.in_ok-word.ensures.ledger in
    (new.0, new.1, new.2, refl)

pub left_in_pool-requires-clause-job : goal.left_in_pool-requires-clause-job
left_in_pool-requires-clause-job g c = c.in_ok-word.ensures.job
