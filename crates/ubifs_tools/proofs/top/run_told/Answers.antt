use Rattle.std.proofs.Common.{List, ℕ, inr, subst}
use Rattle.ubifs_tools.specs.Command.{IsPrinted}
use Rattle.ubifs_tools.specs.Ended.{IsRunEnded}
use Rattle.ubifs_tools.specs.declared.command.RunEnded.{RunEnded}
use Rattle.ubifs_tools.proofs.top.run_told.Goals as goal

pub returns-in-Ok-Unread-clause-files : goal.returns-in-Ok-Unread-clause-files
returns-in-Ok-Unread-clause-files g c = λ h.
    let P : RunEnded → Type 0 = λ e. IsRunEnded (g.K.Keeper.state c.args.keeper.now) (g.K.Keeper.state c.run.new.keeper) c.args.manifest.now c.args.script.now c.args.image.now e in
    let Q : List ℕ → Type 0 = λ t. IsPrinted (g.O.Sink.state c.args.out.now) (g.O.Sink.state c.told.new.out) t in
    let ended = subst P c.in-Ok-Unread.field-0-is c.in-Ok-Unread.ensures.ended in
    (c.in-Ok-Unread.line.items, ended.0, ended.1, subst Q c.deref.ensures.value c.told.ensures.printed)

pub returns-in-Ok-BadText-clause-text : goal.returns-in-Ok-BadText-clause-text
returns-in-Ok-BadText-clause-text g c = λ h.
    let P : RunEnded → Type 0 = λ e. IsRunEnded (g.K.Keeper.state c.args.keeper.now) (g.K.Keeper.state c.run.new.keeper) c.args.manifest.now c.args.script.now c.args.image.now e in
    let Q : List ℕ → Type 0 = λ t. IsPrinted (g.O.Sink.state c.args.out.now) (g.O.Sink.state c.told-in-Ok-BadText.new.out) t in (
      c.in-Ok-BadText.line.items,
      subst P c.in-Ok-BadText.field-0-is c.in-Ok-BadText.ensures.ended,
      subst Q c.deref-in-Ok-BadText.ensures.value c.told-in-Ok-BadText.ensures.printed,
    )

pub returns-in-Ok-BadImage-clause-image : goal.returns-in-Ok-BadImage-clause-image
returns-in-Ok-BadImage-clause-image g c = λ h.
    let P : RunEnded → Type 0 = λ e. IsRunEnded (g.K.Keeper.state c.args.keeper.now) (g.K.Keeper.state c.run.new.keeper) c.args.manifest.now c.args.script.now c.args.image.now e in
    let Q : List ℕ → Type 0 = λ t. IsPrinted (g.O.Sink.state c.args.out.now) (g.O.Sink.state c.told-in-Ok-BadImage.new.out) t in (
      c.in-Ok-BadImage.line.items,
      subst P c.in-Ok-BadImage.field-0-is c.in-Ok-BadImage.ensures.ended,
      subst Q c.deref-in-Ok-BadImage.ensures.value c.told-in-Ok-BadImage.ensures.printed,
    )

pub returns-in-Ok-BadGeometry-clause-geometry : goal.returns-in-Ok-BadGeometry-clause-geometry
returns-in-Ok-BadGeometry-clause-geometry g c = λ h.
    let P : RunEnded → Type 0 = λ e. IsRunEnded (g.K.Keeper.state c.args.keeper.now) (g.K.Keeper.state c.run.new.keeper) c.args.manifest.now c.args.script.now c.args.image.now e in
    let Q : List ℕ → Type 0 = λ t. IsPrinted (g.O.Sink.state c.args.out.now) (g.O.Sink.state c.told-in-Ok-BadGeometry.new.out) t in (
      c.in-Ok-BadGeometry.line.items,
      subst P c.in-Ok-BadGeometry.field-0-is c.in-Ok-BadGeometry.ensures.ended,
      subst Q c.deref-in-Ok-BadGeometry.ensures.value c.told-in-Ok-BadGeometry.ensures.printed,
    )

pub returns-in-Ok-Done-clause-output : goal.returns-in-Ok-Done-clause-output
returns-in-Ok-Done-clause-output g c = λ h.
    let P : RunEnded → Type 0 = λ e. IsRunEnded (g.K.Keeper.state c.args.keeper.now) (g.K.Keeper.state c.run.new.keeper) c.args.manifest.now c.args.script.now c.args.image.now e in
    let Q : List ℕ → Type 0 = λ t. IsPrinted (g.O.Sink.state c.args.out.now) (g.O.Sink.state c.printed.new.out) t in
    let ended = subst P c.in-Ok-Done.field-0-is c.in-Ok-Done.ensures.ended in
    (c.in-Ok-Done.text.items, ended, subst Q c.deref-in-Ok-Done.ensures.value (c.printed.ensures.output h))

pub returns-in-Ok-Done-clause-kept : goal.returns-in-Ok-Done-clause-kept
returns-in-Ok-Done-clause-kept g c =
    let P : RunEnded → Type 0 = λ e. IsRunEnded (g.K.Keeper.state c.args.keeper.now) (g.K.Keeper.state c.run.new.keeper) c.args.manifest.now c.args.script.now c.args.image.now e in
    inr (c.in-Ok-Done.text.items, subst P c.in-Ok-Done.field-0-is c.in-Ok-Done.ensures.ended)
