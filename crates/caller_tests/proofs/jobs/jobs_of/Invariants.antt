use Rattle.std.proofs.Common.{◌≡◌, ◌++◌, map, All}
use Rattle.caller_tests.proofs.FreshJobs.{HasCalls, pass_of}
use Rattle.caller_tests.proofs.jobs.jobs_of.Given as goal

abbrev pub invariant-loop-pass : goal.invariant-loop-pass
invariant-loop-pass l = (l.yielded ++ l.pass-iterator.rest.items ≡ l.fn.passes.items) × (map pass_of l.jobs.items ≡ l.yielded) × All HasCalls l.jobs.items
