use Rattle.std.proofs.Common.{◌≡◌, List, length, All, ap, sym, ◌∙◌, subst, arith}
use Rattle.writeback.specs.declared.together.Task.{Task}
use Rattle.writeback.specs.Runs.{HaveRun}
use Rattle.writeback.specs.Tasks.{IsTaskReady, AreTasksDone, tasks_for, passes_in}
use Rattle.writeback.proofs.Tasking.{length-tasks_for, all_ready, all_run, as_many}
use Rattle.writeback.proofs.together.phase.Goals as goal

pub lay_out-requires-clause-room : goal.lay_out-requires-clause-room
lay_out-requires-clause-room g c = omega (arith, length-tasks_for c.args.jobs.items c.args.workers, c.in-Ok-with_capacity-2.ensures.capacity)

pub run_tasks-requires-clause-ready : goal.run_tasks-requires-clause-ready
run_tasks-requires-clause-ready g c κs h = subst (All (λ (t : Task). IsTaskReady g.J.Site.word g.J.Site.pool t)) (sym c.lay_out.ensures) (all_ready g.J.Site.word g.J.Site.pool c.args.jobs.items c.args.workers c.requires.jobs)

pub gather-requires-clause-room : goal.gather-requires-clause-room
gather-requires-clause-room g c =
    let tasks = c.lay_out.ensures in
    let long : length c.run_tasks.new.tasks.items ≡ length (tasks_for c.args.jobs.items c.args.workers) = c.run_tasks.ensures.length ∙ ap length tasks in
    let done = subst (λ (ts : List Task). AreTasksDone ts c.run_tasks.new.tasks.items) tasks c.run_tasks.ensures.done in
    let many = as_many c.args.jobs.items (passes_in c.run_tasks.new.tasks.items) (all_run c.args.jobs.items c.args.workers c.run_tasks.new.tasks.items long done) in
    omega (arith, many, c.in-Ok-with_capacity.ensures.capacity)

pub returns-clause-ran : goal.returns-clause-ran
returns-clause-ran g c =
    let tasks = c.lay_out.ensures in
    let long : length c.run_tasks.new.tasks.items ≡ length (tasks_for c.args.jobs.items c.args.workers) = c.run_tasks.ensures.length ∙ ap length tasks in
    let done = subst (λ (ts : List Task). AreTasksDone ts c.run_tasks.new.tasks.items) tasks c.run_tasks.ensures.done in
    let ran = all_run c.args.jobs.items c.args.workers c.run_tasks.new.tasks.items long done in
    subst (HaveRun c.args.jobs.items) (sym c.gather.ensures) ran
