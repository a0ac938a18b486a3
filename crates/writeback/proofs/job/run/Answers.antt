use Rattle.std.proofs.Common.{◌⊎◌, ℕ, refl, rules, subst}
use Rattle.fs_laws.specs.Sound.{IsCall}
use Rattle.traced_files.specs.Calls.{IsEntered, IsUndone}
use Rattle.writeback.proofs.Lists.{holds_next, one_came}
use Rattle.writeback.proofs.Running.{run_none, run_push}
use Rattle.writeback.proofs.job.run.Goals as goal

pub loop-op-init : goal.loop-op-init
loop-op-init g c = (search rules, refl, run_none c.args.job.pass c.args.job.now c.has_its_lines.ensures)

pub call-next-requires-clause-call : goal.call-next-requires-clause-call
call-next-requires-clause-call g c κs h =
    let i = c.loop-op.invariant in
    holds_next IsCall c.loop-op.yielded c.loop-op.op-iterator.rest.items c.next.new.self.rest.items c.args.job.ops.items c.in-Some.op i.0 c.in-Some.ensures.steps.0 c.requires.2

pub loop-op-preserved : goal.loop-op-preserved
loop-op-preserved g c =
    let i = c.loop-op.invariant in
    let made : IsUndone c.loop-op.pass c.call-next.result.0 c.call-next.result.1 ⊎ IsEntered g.J.Site.start c.loop-op.pass c.args.job.now c.in-Some.op c.call-next.result.0 c.call-next.result.1 =
    subst (λ (n : ℕ). IsUndone c.loop-op.pass c.call-next.result.0 c.call-next.result.1 ⊎ IsEntered g.J.Site.start c.loop-op.pass n c.in-Some.op c.call-next.result.0 c.call-next.result.1) i.1 c.call-next.ensures in (
      one_came c.loop-op.yielded c.loop-op.op-iterator.rest.items c.next.new.self.rest.items c.args.job.ops.items c.in-Some.op i.0 c.in-Some.ensures.steps.0,
      i.1,
      run_push g.J.Site.start c.args.job.pass c.loop-op.pass c.call-next.result.0 c.args.job.now c.loop-op.yielded c.in-Some.op c.call-next.result.1 i.2 made,
    )
