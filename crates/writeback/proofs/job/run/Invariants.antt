use Rattle.std.proofs.Common.{◌≡◌, ◌++◌}
use Rattle.writeback.specs.Runs.{HasRun}
use Rattle.writeback.proofs.job.run.Given as goal

abbrev pub invariant-loop-op : goal.invariant-loop-op
invariant-loop-op g l =
    (l.yielded ++ l.op-iterator.rest.items ≡ l.fn.job.ops.items) × (l.now ≡ l.fn.job.now) × HasRun l.fn.job.pass l.fn.job.now l.yielded l.pass
