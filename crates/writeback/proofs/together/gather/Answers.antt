use Rattle.std.proofs.Common.{◌++◌, List, length, option_to_list, ap, ◌∙◌, arith}
use Rattle.traced_files.specs.States.{TracedPassState}
use Rattle.writeback.proofs.Lists.{one_came}
use Rattle.writeback.proofs.Tasking.{room_left, one_pass}
use Rattle.writeback.proofs.together.gather.Goals as goal

pub put_pass-requires : goal.put_pass-requires
put_pass-requires c =
    let i = c.loop-task.invariant in
    let r = room_left c.loop-task.yielded c.loop-task.task-iterator.rest.items c.next.new.self.rest.items c.args.tasks.items c.in-Some.task i.0 c.in-Some.ensures.steps.0 in
    omega (arith, r, ap length i.1, i.2)

pub loop-task-preserved-in-Some : goal.loop-task-preserved-in-Some
loop-task-preserved-in-Some c =
    let i = c.loop-task.invariant in (
      one_came c.loop-task.yielded c.loop-task.task-iterator.rest.items c.next.new.self.rest.items c.args.tasks.items c.in-Some.task i.0 c.in-Some.ensures.steps.0,
      c.put_pass.ensures.items ∙ (ap (λ (ps : List TracedPassState). ps ++ option_to_list c.in-Some.task.pass) i.1 ∙ one_pass c.loop-task.yielded c.in-Some.task),
      omega (arith, i.2, c.put_pass.ensures.room),
    )

pub loop-task-preserved : goal.loop-task-preserved
loop-task-preserved c =
    let i = c.loop-task.invariant in (
      one_came c.loop-task.yielded c.loop-task.task-iterator.rest.items c.next.new.self.rest.items c.args.tasks.items c.in-Some.task i.0 c.in-Some.ensures.steps.0,
      c.put_pass.ensures.items ∙ (ap (λ (ps : List TracedPassState). ps ++ option_to_list c.in-Some.task.pass) i.1 ∙ one_pass c.loop-task.yielded c.in-Some.task),
      omega (arith, i.2, c.put_pass.ensures.room),
    )
