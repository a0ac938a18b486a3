use Rattle.std.proofs.Common.{arith}
use Rattle.caller_tests.proofs.FreshJobs.{as_many, fresh_may}
use Rattle.caller_tests.proofs.phase_tests.are_answered.Goals as goal

pub told_by_phase-requires-clause-jobs : goal.told_by_phase-requires-clause-jobs
told_by_phase-requires-clause-jobs g c κs within =
    let w = c.in_ok-word.field-0 in
    let many = as_many w.word w.pool 3 c.in_ok-jobs.jobs.items w.passes.items c.in_ok-jobs.ensures.passes c.in_ok-word.ensures.passes in
    (omega (arith, many), fresh_may w.word w.pool 3 c.in_ok-jobs.jobs.items w.passes.items c.in_ok-jobs.ensures.passes c.in_ok-word.ensures.passes c.in_ok-jobs.ensures.ops)
