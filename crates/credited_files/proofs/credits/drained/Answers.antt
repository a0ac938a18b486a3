use Rattle.std.proofs.Common.{subst, sym}
use Rattle.vfs_ops.specs.declared.event.Event.{Event}
use Rattle.vfs_ops.specs.Fs.{files_state}
use Rattle.vfs_ops.specs.Passing.{IsStep}
use Rattle.credited_files.proofs.credits.drained.Goals as goal

pub returns-clause-step : goal.returns-clause-step
returns-clause-step g c =
    subst (λ (e : Event). IsStep (files_state c.args.fs.now) (files_state c.act.new.self) e c.act.result.outcome) (sym c.act.ensures.event) c.act.ensures.step
