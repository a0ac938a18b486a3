use Rattle.std.proofs.Common.{List, ℕ, subst}
use Rattle.ubifs_base.specs.NodeLaws.{IsBytes}
use Rattle.ubifs_base.specs.RawOf.{raw_of}
use Rattle.image_report.specs.Told.{AreImageFiles, HoldsVolume, IsUnsound}
use Rattle.image_report.specs.declared.files.ImageFiles.{ImageFiles}
use Rattle.ubifs_tools.proofs.Performing.{small_files}
use Rattle.ubifs_tools.proofs.beginning.run_on.Goals as goal

pub returns-in-Unsound : goal.returns-in-Unsound
returns-in-Unsound g c =
    let P : ImageFiles → Type 0 = λ files. AreImageFiles c.deref-2.result.now files in
    let Q : List ℕ → Type 0 = λ bytes. IsUnsound bytes c.in-Unsound.line.items in
    subst Q c.deref-2.ensures.value (subst P c.in-Unsound.is c.in_ok-line.ensures)

pub run_volume-requires-clause-proper : goal.run_volume-requires-clause-proper
run_volume-requires-clause-proper g c κs within =
    let P : ImageFiles → Type 0 = λ files. AreImageFiles c.deref-2.result.now files in (subst P c.in-Sound.is c.in_ok-line.ensures).files.proper

pub run_volume-requires-clause-small : goal.run_volume-requires-clause-small
run_volume-requires-clause-small g c κs within =
    let P : ImageFiles → Type 0 = λ files. AreImageFiles c.deref-2.result.now files in
    small_files c.deref-2.result.now (raw_of c.in-Sound.geometry) c.in-Sound.tree (subst P c.in-Sound.is c.in_ok-line.ensures).files

pub returns-in_ok-output-in-Sound : goal.returns-in_ok-output-in-Sound
returns-in_ok-output-in-Sound g c =
    let P : ImageFiles → Type 0 = λ files. AreImageFiles c.deref-2.result.now files in
    let Q : List ℕ → Type 0 = λ bytes. HoldsVolume bytes (raw_of c.in-Sound.geometry) c.in-Sound.tree c.in-Sound.space in
    let R : List ℕ → Type 0 = λ bytes. IsBytes bytes in
    record {
      geo = raw_of c.in-Sound.geometry;
      tree = c.in-Sound.tree;
      space = c.in-Sound.space;
      left = c.in_ok-output-in-Sound.ensures.0;
      bytes = subst R c.deref.ensures.value c.show_bytes.ensures;
      volume = subst Q c.deref-2.ensures.value (subst P c.in-Sound.is c.in_ok-line.ensures);
      run = c.in_ok-output-in-Sound.ensures.1;
    }
