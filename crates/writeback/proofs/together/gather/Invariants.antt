use Rattle.std.proofs.Common.{◌≡◌, ◌≤◌, ◌++◌, length}
use Rattle.std.specs.Prelude.{vec_capacity}
use Rattle.writeback.specs.Tasks.{passes_in}
use Rattle.writeback.proofs.together.gather.Given as goal

abbrev pub invariant-loop-task : goal.invariant-loop-task
invariant-loop-task l =
    (l.yielded ++ l.task-iterator.rest.items ≡ l.fn.tasks.items) × (l.passes.items ≡ passes_in l.yielded) × (length (passes_in l.fn.tasks.items) ≤ vec_capacity l.passes)
