use Rattle.std.proofs.Common.{List, ℕ, subst, inr}
use Rattle.ubifs_tools.specs.Command.{IsPrinted, IsTold}
use Rattle.ubifs_tools.specs.Making.{IsMkfsEnded}
use Rattle.ubifs_tools.specs.declared.command.Ended.{Ended}
use Rattle.ubifs_tools.proofs.top.mkfs_told.Goals as goal

pub returns-in-Ok-Unread-clause-files : goal.returns-in-Ok-Unread-clause-files
returns-in-Ok-Unread-clause-files g c = λ h.
    let P : Ended → Type 0 = λ e. IsMkfsEnded (g.K.Keeper.state c.args.keeper.now) (g.K.Keeper.state c.mkfs.new.keeper) c.args.manifest.now c.args.image.now e in
    let Q : List ℕ → Type 0 = λ t. IsPrinted (g.O.Sink.state c.args.out.now) (g.O.Sink.state c.told.new.out) t in
    let ended = subst P c.in-Ok-Unread.field-0-is c.in-Ok-Unread.ensures.ended in
    (c.in-Ok-Unread.line.items, ended, subst Q c.deref.ensures.value c.told.ensures.printed)

pub returns-in-Ok-Done-clause-output : goal.returns-in-Ok-Done-clause-output
returns-in-Ok-Done-clause-output g c = λ h.
    let P : Ended → Type 0 = λ e. IsMkfsEnded (g.K.Keeper.state c.args.keeper.now) (g.K.Keeper.state c.mkfs.new.keeper) c.args.manifest.now c.args.image.now e in
    let Q : List ℕ → Type 0 = λ t. IsPrinted (g.O.Sink.state c.args.out.now) (g.O.Sink.state c.printed.new.out) t in
    let ended = subst P c.in-Ok-Done.field-0-is c.in-Ok-Done.ensures.ended in
    (c.in-Ok-Done.text.items, ended, subst Q c.deref-in-Ok-Done.ensures.value (c.printed.ensures.output h))

pub returns-in-Ok-BadGeometry-clause-geometry : goal.returns-in-Ok-BadGeometry-clause-geometry
returns-in-Ok-BadGeometry-clause-geometry g c = λ h.
    let P : Ended → Type 0 = λ e. IsMkfsEnded (g.K.Keeper.state c.args.keeper.now) (g.K.Keeper.state c.mkfs.new.keeper) c.args.manifest.now c.args.image.now e in
    let Q : List ℕ → Type 0 = λ t. IsPrinted (g.O.Sink.state c.args.out.now) (g.O.Sink.state c.told-in-Ok-BadGeometry.new.out) t in (
      c.in-Ok-BadGeometry.line.items,
      subst P c.in-Ok-BadGeometry.field-0-is c.in-Ok-BadGeometry.ensures.ended,
      subst Q c.deref-in-Ok-BadGeometry.ensures.value c.told-in-Ok-BadGeometry.ensures.printed,
    )

pub returns-in-Ok-Done-clause-done : goal.returns-in-Ok-Done-clause-done
returns-in-Ok-Done-clause-done g c = λ h.
    let P : Ended → Type 0 = λ e. IsMkfsEnded (g.K.Keeper.state c.args.keeper.now) (g.K.Keeper.state c.mkfs.new.keeper) c.args.manifest.now c.args.image.now e in
    let Q : List ℕ → Type 0 = λ t. IsTold (g.O.Sink.state c.args.out.now) (g.O.Sink.state c.printed.new.out) t in (
      c.in-Ok-Done.text.items,
      subst P c.in-Ok-Done.field-0-is c.in-Ok-Done.ensures.ended,
      subst Q c.deref-in-Ok-Done.ensures.value (c.printed.ensures.done h),
    )

pub returns-in-Ok-Done-clause-kept : goal.returns-in-Ok-Done-clause-kept
returns-in-Ok-Done-clause-kept g c =
    let P : Ended → Type 0 = λ e. IsMkfsEnded (g.K.Keeper.state c.args.keeper.now) (g.K.Keeper.state c.mkfs.new.keeper) c.args.manifest.now c.args.image.now e in
    inr (c.in-Ok-Done.text.items, subst P c.in-Ok-Done.field-0-is c.in-Ok-Done.ensures.ended)
