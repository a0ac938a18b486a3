use Rattle.std.specs.Prelude.{Err}
use Rattle.std.proofs.Common.{◌∙◌, ap, inl, inr, sym, subst}
use Rattle.ubifs_base.specs.RawOf.{raw_of}
use Rattle.fs_model.specs.Files.{Tree}
use Rattle.fs_model.specs.Proper.{IsProper}
use Rattle.image_volume.specs.ImageVolume.{state_of}
use Rattle.image_volume.specs.ImageVolumeLaws.{never_spent}
use Rattle.image_check.specs.Told.{IsNoVolumeFault, TellsBreach}
use Rattle.image_check.specs.declared.fault.CheckFault.{CheckFault}
use Rattle.sound_image.specs.Breaches.{IsFirstBreach}
use Rattle.recovered_tree.specs.declared.recovered_files.RecoveredFiles.{RecoveredFiles}
use Rattle.image_report.specs.Lines.{breach_line}
use Rattle.image_report.proofs.Contents.{broken, held, proper_in, shape_at}
use Rattle.image_report.proofs.files.files_in.Goals as goal

pub read_tree_of-requires-clause-shape : goal.read_tree_of-requires-clause-shape
read_tree_of-requires-clause-shape g c κs within = shape_at c.contents_say_one_thing.ensures.geometry c.args.bytes.now (raw_of c.args.opened.geometry) c.args.opened.volume c.requires.volume c.requires.loaded

pub unreachable-requires : goal.unreachable-requires
unreachable-requires g c =
    let P : CheckFault → Type 0 = λ fault. IsNoVolumeFault {T = RecoveredFiles} (Err fault) in
    elim (c.in-Err-Volume.ensures.reads.sure c.requires.loaded.found.sure) [
      | inl gone ↦ never_spent c.args.opened.volume c.read_tree_of.new.volume c.requires.loaded.found.sure c.in-Err-Volume.ensures.reads.shape c.in-Err-Volume.ensures.reads.keeps gone
      | inr is ↦ subst P c.in-Err-Volume.field-0-is is.1.1
    ]

pub returns-in_ok-space-in-Ok : goal.returns-in_ok-space-in-Ok
returns-in_ok-space-in-Ok g c =
    let files = c.in-Ok.ensures.files in
    let told = held c.contents_say_one_thing.ensures.geometry c.args.bytes.now (raw_of c.args.opened.geometry) c.args.opened.volume files.0 c.requires.volume c.requires.loaded files.1.sound in
    record {
      files = record {
        image = files.0;
        holds = told.0;
        geometry = told.1;
        files = files.1.tree;
        proper = let P : Tree → Type 0 = λ tree. IsProper tree in
            subst P (sym files.1.tree) (proper_in c.the_files_of_an_image_are_proper.ensures.proper c.args.opened.volume files.0 files.1.sound);
      };
      space_is = ap (λ s. s.space) (c.in_ok-space-in-Ok.ensures (state_of c.args.opened.volume).holds files.0 files.1.sound files.1.read);
    }

pub returns-in_ok-line-in-Err-Unsound : goal.returns-in_ok-line-in-Err-Unsound
returns-in_ok-line-in-Err-Unsound g c =
    let P : CheckFault → Type 0 = λ fault. TellsBreach (IsFirstBreach (state_of c.args.opened.volume).holds) fault in
    broken c.args.bytes.now (raw_of c.args.opened.geometry) c.args.opened.volume c.in-Err-Unsound.breach c.requires.volume c.requires.loaded
    (subst P c.in-Err-Unsound.field-0-is c.in-Err-Unsound.ensures.broken) c.in_ok-line-in-Err-Unsound.line.items
    (c.in_ok-line-in-Err-Unsound.ensures ∙ ap breach_line c.in-Err-Unsound.breach-is)
