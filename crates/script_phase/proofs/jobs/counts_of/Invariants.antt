use Rattle.std.proofs.Common.{◌≡◌, ◌++◌, map, drop}
use Rattle.script_phase.proofs.NewJobs.{count_of}
use Rattle.script_phase.proofs.jobs.counts_of.Given as goal

abbrev pub invariant-loop-job : goal.invariant-loop-job
invariant-loop-job l = l.counts.items ++ map count_of (drop l.job-index l.jobs.items) ≡ map count_of l.jobs.items
