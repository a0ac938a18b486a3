use Rattle.std.proofs.Common.{◌≡◌, ◌≤◌, ◌++◌, map, length}
use Rattle.std.specs.Prelude.{vec_capacity}
use Rattle.writeback.specs.Tasks.{task_of, tasks_for, workers_to}
use Rattle.writeback.proofs.together.lay_out.Given as goal

abbrev pub invariant-loop-job : goal.invariant-loop-job
invariant-loop-job l =
    (l.yielded ++ l.job-iterator.rest.items ≡ l.fn.jobs.items) × (l.tasks.items ≡ map task_of l.yielded) × (length (tasks_for l.fn.jobs.items l.workers) ≤ vec_capacity l.tasks)

abbrev pub invariant-loop-idle : goal.invariant-loop-idle
invariant-loop-idle l =
    (l.tasks.items ≡ map task_of l.fn.jobs.items ++ workers_to l.idle) × (length (tasks_for l.fn.jobs.items l.workers) ≤ vec_capacity l.tasks)
