use Rattle.std.proofs.Common.{length, map, ap, arith, length-append}
use Rattle.std.proofs.lemmas.List.{length-map}
use Rattle.writeback.specs.Tasks.{task_of, workers_to}
use Rattle.writeback.proofs.Tasking.{length-workers_to, length-tasks_for}
use Rattle.writeback.proofs.together.lay_out.Goals as goal

pub push_reserved-requires-in-loop-idle : goal.push_reserved-requires-in-loop-idle
push_reserved-requires-in-loop-idle c =
    let i = c.loop-idle.invariant in
    omega (arith, ap length i.0, length-append (map task_of c.args.jobs.items) (workers_to c.loop-idle.idle), length-map c.args.jobs.items task_of, length-workers_to c.loop-idle.idle, length-tasks_for c.args.jobs.items c.args.workers, i.1)
