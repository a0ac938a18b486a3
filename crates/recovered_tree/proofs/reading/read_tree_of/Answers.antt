use Rattle.std.proofs.Common.{ℕ, List, Err, sym, subst}
use Rattle.fs_model.specs.Files.{Tree}
use Rattle.ubi_volume.specs.Faults.{HasAreaCause, StaysSureArea}
use Rattle.ubi_volume.specs.declared.fault.AreaFault.{AreaFault}
use Rattle.sound_image.specs.Sound.{SoundImage}
use Rattle.sound_check.specs.Reads.{IsReadImage}
use Rattle.sound_image.specs.ContentsLaws.{contents_bytes}
use Rattle.recovered_tree.proofs.Kept.{exit_reads, kept_check, kept_holds, reads_memory, reads_ok, reads_volume}
use Rattle.recovered_tree.proofs.reading.read_tree_of.Goals as goal

pub returns-in_err-read-clause-reads : goal.returns-in_err-read-clause-reads
returns-in_err-read-clause-reads g c =
    let old = g.V.Volume.state c.args.volume.now in
    let new = g.V.Volume.state c.read_image.new.volume in
    exit_reads (Unit {0}) old new c.in_err-read.field-0.0 c.from_residual.result c.from_residual.ensures.1
    (record { keeps = c.in_err-read.ensures.keeps.0; shape = c.in_err-read.ensures.keeps.1; cause = c.in_err-read.ensures.cause; sure = c.in_err-read.ensures.sure })

pub returns-in-Ok-clause-files : goal.returns-in-Ok-clause-files
returns-in-Ok-clause-files g c =
    let old = g.V.Volume.state c.args.volume.now in
    let one = g.V.Volume.state c.read_image.new.volume in
    let met = c.in_ok-read.ensures.sound in
    let same = sym (kept_holds old one c.in_ok-read.ensures.keeps.0) in
    let S : (ℕ → List ℕ) → Type 0 = λ holds. SoundImage holds met.0 in
    let R : (ℕ → List ℕ) → Type 0 = λ holds. IsReadImage holds c.in_ok-read.read met.0 in
    let proper = c.the_tree_of_a_mount_is_proper.ensures old.holds met.0 (contents_bytes old (λ k less. g.met.V.Volume.leb_bytes c.args.volume.now k less) (λ k high. g.met.V.Volume.none c.args.volume.now k high)) met.1 in
    (met.0, record { sound = met.1; read = met.2; tree = c.in-Ok.ensures.files met.0 (subst S same met.1) (subst R same met.2) proper })

pub returns-in-Ok-clause-reads : goal.returns-in-Ok-clause-reads
returns-in-Ok-clause-reads g c =
    let old = g.V.Volume.state c.args.volume.now in
    let one = g.V.Volume.state c.read_image.new.volume in
    let new = g.V.Volume.state c.read_files.new.volume in
    let kept = kept_check old one c.in_ok-read.read (record { keeps = c.in_ok-read.ensures.keeps.0; shape = c.in_ok-read.ensures.keeps.1; cause = c.in_ok-read.ensures.cause; sure = c.in_ok-read.ensures.sure }) in
    reads_ok old one new c.in-Ok.tree _ kept c.in-Ok.ensures.keeps c.in-Ok.ensures.cause c.in-Ok.ensures.sure

pub returns-in-Err-Memory-clause-reads : goal.returns-in-Err-Memory-clause-reads
returns-in-Err-Memory-clause-reads g c =
    let old = g.V.Volume.state c.args.volume.now in
    let one = g.V.Volume.state c.read_image.new.volume in
    let new = g.V.Volume.state c.read_files.new.volume in
    let kept = kept_check old one c.in_ok-read.read (record { keeps = c.in_ok-read.ensures.keeps.0; shape = c.in_ok-read.ensures.keeps.1; cause = c.in_ok-read.ensures.cause; sure = c.in_ok-read.ensures.sure }) in
    let C : AreaFault → Type 0 = λ f. HasAreaCause {T = Tree} one.faults new.faults (Err f) in
    let W : AreaFault → Type 0 = λ f. StaysSureArea {T = Tree} one new (Err f) in
    reads_memory Tree old one new kept c.in-Err-Memory.ensures.keeps (subst C c.in-Err-Memory.field-0-is c.in-Err-Memory.ensures.cause) (subst W c.in-Err-Memory.field-0-is c.in-Err-Memory.ensures.sure)

pub returns-clause-reads : goal.returns-clause-reads
returns-clause-reads g c =
    let old = g.V.Volume.state c.args.volume.now in
    let one = g.V.Volume.state c.read_image.new.volume in
    let new = g.V.Volume.state c.read_files.new.volume in
    let kept = kept_check old one c.in_ok-read.read (record { keeps = c.in_ok-read.ensures.keeps.0; shape = c.in_ok-read.ensures.keeps.1; cause = c.in_ok-read.ensures.cause; sure = c.in_ok-read.ensures.sure }) in
    let C : AreaFault → Type 0 = λ f. HasAreaCause {T = Tree} one.faults new.faults (Err f) in
    let W : AreaFault → Type 0 = λ f. StaysSureArea {T = Tree} one new (Err f) in
    reads_volume Tree old one new c.in-Err-Volume.count kept c.in-Err-Volume.ensures.keeps (subst C c.in-Err-Volume.field-0-is c.in-Err-Volume.ensures.cause) (subst W c.in-Err-Volume.field-0-is c.in-Err-Volume.ensures.sure)
