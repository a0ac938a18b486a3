use Rattle.std.proofs.Common.{List, ℕ, arith, subst, sym}
use Rattle.ubifs_tools.specs.Command.{Told}
use Rattle.ubifs_tools.specs.Copies.{FilesStay}
use Rattle.ubifs_tools.specs.Performed.{IsRan}
use Rattle.ubifs_tools.specs.declared.perform.Ran.{Ran}
use Rattle.ubifs_tools.proofs.EndedRuns.{HasBegun, left_same, turned_geometry, unread_copy, written_out}
use Rattle.ubifs_tools.proofs.Readings.{stay_all, told_before}
use Rattle.ubifs_tools.proofs.command.run.Goals as goal

pub returns-in-Unread-clause-ended : goal.returns-in-Unread-clause-ended
returns-in-Unread-clause-ended g c =
    let old = g.K.Keeper.state c.args.keeper.now in
    let first = g.K.Keeper.state c.read.new.self in
    let mid = g.K.Keeper.state c.read-2.new.self in
    let new = g.K.Keeper.state c.perform.new.keeper in
    let texts : List ℕ × List ℕ = (c.in-Ok.volume.items, c.deref.result.now) in
    let one_counted = c.in-Ok.ensures.counted in
    let two_counted = c.in-Ok-read.ensures.counted in
    let one : FilesStay old first = record { same = c.read.ensures.files; telling = c.read.ensures.telling; counted = omega (arith, one_counted) } in
    let two : FilesStay first mid = record { same = c.read-2.ensures.files; telling = c.read-2.ensures.telling; counted = omega (arith, two_counted) } in
    let script = subst (λ (t : List ℕ). Told first c.args.script.now t) (sym c.deref.ensures.value) c.in-Ok-read.ensures.file in
    let begun : HasBegun old mid new c.args.manifest.now c.args.script.now texts = record {
      read = record { manifest_told = c.in-Ok.ensures.file; script_told = told_before old first c.args.script.now c.deref.result.now one script };
      before = stay_all old first mid one two;
      after = c.perform.ensures.stay;
    } in
    let P : Ran → Type 0 = λ r. IsRan mid new texts r in
    (unread_copy old mid new c.args.manifest.now c.args.script.now c.args.image.now texts c.in-Unread.line.items begun (subst P c.in-Unread.is c.in_ok-line.ensures.ran), (stay_all old mid new begun.before begun.after).same)

pub returns-in-BadGeometry-clause-ended : goal.returns-in-BadGeometry-clause-ended
returns-in-BadGeometry-clause-ended g c =
    let old = g.K.Keeper.state c.args.keeper.now in
    let first = g.K.Keeper.state c.read.new.self in
    let mid = g.K.Keeper.state c.read-2.new.self in
    let new = g.K.Keeper.state c.perform.new.keeper in
    let texts : List ℕ × List ℕ = (c.in-Ok.volume.items, c.deref.result.now) in
    let one_counted = c.in-Ok.ensures.counted in
    let two_counted = c.in-Ok-read.ensures.counted in
    let one : FilesStay old first = record { same = c.read.ensures.files; telling = c.read.ensures.telling; counted = omega (arith, one_counted) } in
    let two : FilesStay first mid = record { same = c.read-2.ensures.files; telling = c.read-2.ensures.telling; counted = omega (arith, two_counted) } in
    let script = subst (λ (t : List ℕ). Told first c.args.script.now t) (sym c.deref.ensures.value) c.in-Ok-read.ensures.file in
    let begun : HasBegun old mid new c.args.manifest.now c.args.script.now texts = record {
      read = record { manifest_told = c.in-Ok.ensures.file; script_told = told_before old first c.args.script.now c.deref.result.now one script };
      before = stay_all old first mid one two;
      after = c.perform.ensures.stay;
    } in
    let P : Ran → Type 0 = λ r. IsRan mid new texts r in
    turned_geometry old mid new c.args.manifest.now c.args.script.now texts c.in-BadGeometry.line.items begun (subst P c.in-BadGeometry.is c.in_ok-line.ensures.ran)

pub returns : goal.returns
returns g c =
    let old = g.K.Keeper.state c.args.keeper.now in
    let first = g.K.Keeper.state c.read.new.self in
    let mid = g.K.Keeper.state c.read-2.new.self in
    let new = g.K.Keeper.state c.perform.new.keeper in
    let texts : List ℕ × List ℕ = (c.in-Ok.volume.items, c.deref.result.now) in
    let one_counted = c.in-Ok.ensures.counted in
    let two_counted = c.in-Ok-read.ensures.counted in
    let one : FilesStay old first = record { same = c.read.ensures.files; telling = c.read.ensures.telling; counted = omega (arith, one_counted) } in
    let two : FilesStay first mid = record { same = c.read-2.ensures.files; telling = c.read-2.ensures.telling; counted = omega (arith, two_counted) } in
    let script = subst (λ (t : List ℕ). Told first c.args.script.now t) (sym c.deref.ensures.value) c.in-Ok-read.ensures.file in
    let begun : HasBegun old mid new c.args.manifest.now c.args.script.now texts = record {
      read = record { manifest_told = c.in-Ok.ensures.file; script_told = told_before old first c.args.script.now c.deref.result.now one script };
      before = stay_all old first mid one two;
      after = c.perform.ensures.stay;
    } in
    let P : Ran → Type 0 = λ r. IsRan mid new texts r in
    record {
      ended = written_out c.write_image.result old mid new (g.K.Keeper.state c.write_image.new.keeper) c.args.manifest.now c.args.script.now c.args.image.now texts c.in-Done.text.items c.in-Done.bytes.items c.deref-in-Done.result.now begun
          (subst P c.in-Done.is c.in_ok-line.ensures.ran) c.deref-in-Done.ensures.value c.write_image.ensures.written;
      err = left_same c.write_image.result old mid new (g.K.Keeper.state c.write_image.new.keeper) begun.before begun.after c.write_image.ensures.err;
    }
