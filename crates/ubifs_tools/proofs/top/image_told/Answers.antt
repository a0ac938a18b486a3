use Rattle.std.proofs.Common.{List, ℕ, subst}
use Rattle.ubifs_tools.specs.Command.{IsPrinted}
use Rattle.ubifs_tools.specs.Reported.{IsReported}
use Rattle.ubifs_tools.specs.declared.image_command.Reported.{Reported}
use Rattle.ubifs_tools.proofs.top.image_told.Goals as goal

pub returns-in-Ok-BadImage-clause-image : goal.returns-in-Ok-BadImage-clause-image
returns-in-Ok-BadImage-clause-image g c = λ h.
    let P : Reported → Type 0 = λ d. IsReported c.args.command (g.K.Keeper.state c.args.keeper.now) (g.K.Keeper.state c.report.new.keeper) c.args.image.now d in
    let Q : List ℕ → Type 0 = λ t. IsPrinted (g.O.Sink.state c.args.out.now) (g.O.Sink.state c.told-in-Ok-BadImage.new.out) t in (
      c.in-Ok-BadImage.line.items,
      subst P c.in-Ok-BadImage.field-0-is c.in-Ok-BadImage.ensures.ended,
      subst Q c.deref-in-Ok-BadImage.ensures.value c.told-in-Ok-BadImage.ensures.printed,
    )

pub returns-in-Ok-Done-clause-output : goal.returns-in-Ok-Done-clause-output
returns-in-Ok-Done-clause-output g c = λ h.
    let P : Reported → Type 0 = λ d. IsReported c.args.command (g.K.Keeper.state c.args.keeper.now) (g.K.Keeper.state c.report.new.keeper) c.args.image.now d in
    let Q : List ℕ → Type 0 = λ t. IsPrinted (g.O.Sink.state c.args.out.now) (g.O.Sink.state c.printed.new.out) t in (
      c.in-Ok-Done.text.items,
      subst P c.in-Ok-Done.field-0-is c.in-Ok-Done.ensures.ended,
      subst Q c.deref-in-Ok-Done.ensures.value (c.printed.ensures.output h),
    )
