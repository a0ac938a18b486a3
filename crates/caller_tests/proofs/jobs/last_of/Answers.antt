use Rattle.std.proofs.Common.{All, sym, subst}
use Rattle.caller_tests.proofs.FreshJobs.{IsOf, all_fresh}
use Rattle.caller_tests.proofs.jobs.last_of.Goals as goal

pub returns-clause-job : goal.returns-clause-job
returns-clause-job c =
    let w = c.in_ok-word.field-0 in
    let P = IsOf w.word w.pool in
    c.in_ok-job.ensures w.word w.pool (subst (All P) (sym c.in_ok-word.ensures.passes) (all_fresh w.word w.pool c.args.callers))
