use Rattle.std.specs.Prelude.{Err}
use Rattle.std.proofs.Common.{◌≡◌, ◌∙◌, ap, inl, inr, subst}
use Rattle.ubifs_base.specs.RawOf.{raw_of}
use Rattle.image_volume.specs.ImageVolume.{state_of}
use Rattle.image_volume.specs.ImageVolumeLaws.{never_spent}
use Rattle.image_check.specs.Told.{IsNoVolumeFault, TellsBreach}
use Rattle.image_check.specs.declared.fault.CheckFault.{CheckFault}
use Rattle.sound_image.specs.Breaches.{IsFirstBreach}
use Rattle.recovered_tree.specs.Checked.{Sound}
use Rattle.image_report.specs.Lines.{breach_line}
use Rattle.image_report.proofs.Contents.{broken, held, shape_at, still_opened}
use Rattle.image_report.proofs.looking.check_opened.Goals as goal

pub check-requires-clause-shape : goal.check-requires-clause-shape
check-requires-clause-shape g c κs within = shape_at c.contents_say_one_thing.ensures.geometry c.args.bytes.now (raw_of c.args.opened.geometry) c.args.opened.volume c.requires.volume c.requires.loaded

pub unreachable-requires : goal.unreachable-requires
unreachable-requires g c =
    let P : CheckFault → Type 0 = λ fault. IsNoVolumeFault {T = Sound} (Err fault) in
    elim (c.in-Err-Volume.ensures.sure c.requires.loaded.found.sure) [
      | inl gone ↦ never_spent c.args.opened.volume c.check.new.volume c.requires.loaded.found.sure c.in-Err-Volume.ensures.keeps.1 c.in-Err-Volume.ensures.keeps.0 gone
      | inr is ↦ subst P c.in-Err-Volume.field-0-is is.1.1
    ]

pub returns-in-Ok : goal.returns-in-Ok
returns-in-Ok g c =
    let old = state_of c.args.opened.volume in
    let new = state_of c.check.new.volume in
    let fine : new.sure × ((new.faults ≡ old.faults) × IsNoVolumeFault c.check.result) = elim (c.check.ensures.sure c.requires.loaded.found.sure) [
      | inl gone ↦ absurd (never_spent c.args.opened.volume c.check.new.volume c.requires.loaded.found.sure c.check.ensures.keeps.1 c.check.ensures.keeps.0 gone)
      | inr is ↦ is
    ] in
    let sound = c.in-Ok.ensures.sound in
    let told = held c.contents_say_one_thing.ensures.geometry c.args.bytes.now (raw_of c.args.opened.geometry) c.args.opened.volume sound.0 c.requires.volume c.requires.loaded sound.1 in (
      still_opened c.args.bytes.now c.args.opened c.check.new.volume c.requires c.check.ensures.keeps.0 c.check.ensures.keeps.1 fine.0 fine.1.0,
      (sound.0, told.0, told.1, sound.2),
    )

pub returns-in_ok-line-in-Err-Unsound : goal.returns-in_ok-line-in-Err-Unsound
returns-in_ok-line-in-Err-Unsound g c =
    let P : CheckFault → Type 0 = λ fault. TellsBreach (IsFirstBreach (state_of c.args.opened.volume).holds) fault in
    broken c.args.bytes.now (raw_of c.args.opened.geometry) c.args.opened.volume c.in-Err-Unsound.breach c.requires.volume c.requires.loaded
    (subst P c.in-Err-Unsound.field-0-is c.in-Err-Unsound.ensures.broken) c.in_ok-line-in-Err-Unsound.line.items
    (c.in_ok-line-in-Err-Unsound.ensures ∙ ap breach_line c.in-Err-Unsound.breach-is)
