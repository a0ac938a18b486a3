use Rattle.std.proofs.Common.{ℕ, List, sym, subst}
use Rattle.ubifs_base.specs.RawOf.{raw_of}
use Rattle.sound_image.specs.Breaches.{IsFirstBreach}
use Rattle.sound_image.specs.Masters.{HasMasters}
use Rattle.sound_image.specs.Superblock.{HasSuperblock}
use Rattle.image_check.specs.Told.{TellsBreach}
use Rattle.sound_check.proofs.Firsts.{first_same}
use Rattle.sound_check.proofs.Kept.{exit_broken, exit_reads, failed_first, failed_then, kept_one, kept_then, reads_ok, same_holds}
use Rattle.sound_check.proofs.Shapes.{geometry_kept}
use Rattle.sound_check.proofs.begun.begin.Goals as goal

pub returns-in_err-geometry-clause-reads : goal.returns-in_err-geometry-clause-reads
returns-in_err-geometry-clause-reads g c =
    exit_reads _ _ c.in_err-geometry.field-0.0 c.from_residual.result c.from_residual.ensures.1 (failed_first (Unit {0}) _ (g.V.Volume.state c.args.volume.now) (g.V.Volume.state c.check_superblock.new.volume) c.in_err-geometry.field-0.0 c.in_err-geometry.ensures.keeps c.in_err-geometry.ensures.cause c.in_err-geometry.ensures.sure)

pub check_masters-requires-clause-geometry : goal.check_masters-requires-clause-geometry
check_masters-requires-clause-geometry g c =
    let old = g.V.Volume.state c.args.volume.now in
    let now = g.V.Volume.state c.check_superblock.new.volume in
    let geo = raw_of c.in_ok-geometry.geometry in
    geometry_kept geo old now c.in_ok-geometry.ensures.keeps.1 (c.requires.shape.shape geo c.in_ok-geometry.ensures.met)

pub check_masters-requires-clause-superblock : goal.check_masters-requires-clause-superblock
check_masters-requires-clause-superblock g c =
    let old = g.V.Volume.state c.args.volume.now in
    let now = g.V.Volume.state c.check_superblock.new.volume in
    let P : (ℕ → List ℕ) → Type 0 = λ holds. HasSuperblock holds (raw_of c.in_ok-geometry.geometry) in
    subst P (sym (same_holds old now c.in_ok-geometry.ensures.keeps.0)) c.in_ok-geometry.ensures.met

pub returns-in_err-latest-clause-broken : goal.returns-in_err-latest-clause-broken
returns-in_err-latest-clause-broken g c =
    let old = g.V.Volume.state c.args.volume.now in
    let now = g.V.Volume.state c.check_superblock.new.volume in
    exit_broken (TellsBreach (IsFirstBreach (g.V.Volume.state c.args.volume.now).holds)) c.in_err-latest.field-0.0 c.from_residual-in_err-latest.result c.from_residual-in_err-latest.ensures.1 (first_same old.holds now.holds (same_holds old now c.check_superblock.ensures.keeps.0) c.in_err-latest.field-0.0 c.in_err-latest.ensures.broken)

pub returns-in_err-latest-clause-reads : goal.returns-in_err-latest-clause-reads
returns-in_err-latest-clause-reads g c =
    let old = g.V.Volume.state c.args.volume.now in
    let now = g.V.Volume.state c.check_superblock.new.volume in
    let new = g.V.Volume.state c.check_masters.new.volume in
    let kept = kept_one old now c.in_ok-geometry.geometry c.in_ok-geometry.ensures.keeps c.in_ok-geometry.ensures.cause c.in_ok-geometry.ensures.sure in
    exit_reads _ _ c.in_err-latest.field-0.0 c.from_residual-in_err-latest.result c.from_residual-in_err-latest.ensures.1 (failed_then (Unit {0}) _ old now new c.in_err-latest.field-0.0 kept c.in_err-latest.ensures.keeps c.in_err-latest.ensures.cause c.in_err-latest.ensures.sure)

pub returns-clause-met : goal.returns-clause-met
returns-clause-met g c =
    let old = g.V.Volume.state c.args.volume.now in
    let now = g.V.Volume.state c.check_superblock.new.volume in
    let P : (ℕ → List ℕ) → Type 0 = λ holds. HasMasters holds (raw_of c.in_ok-geometry.geometry) c.in_ok-latest.latest in
    record { superblock = c.in_ok-geometry.ensures.met; masters = subst P (same_holds old now c.in_ok-geometry.ensures.keeps.0) c.in_ok-latest.ensures.met }

pub returns-clause-geometry : goal.returns-clause-geometry
returns-clause-geometry g c =
    let old = g.V.Volume.state c.args.volume.now in
    let now = g.V.Volume.state c.check_superblock.new.volume in
    let new = g.V.Volume.state c.check_masters.new.volume in
    let geo = raw_of c.in_ok-geometry.geometry in
    geometry_kept geo now new c.in_ok-latest.ensures.keeps.1 (geometry_kept geo old now c.in_ok-geometry.ensures.keeps.1 (c.requires.shape.shape geo c.in_ok-geometry.ensures.met))

pub returns-clause-reads : goal.returns-clause-reads
returns-clause-reads g c =
    let old = g.V.Volume.state c.args.volume.now in
    let now = g.V.Volume.state c.check_superblock.new.volume in
    let new = g.V.Volume.state c.check_masters.new.volume in
    let kept = kept_one old now c.in_ok-geometry.geometry c.in_ok-geometry.ensures.keeps c.in_ok-geometry.ensures.cause c.in_ok-geometry.ensures.sure in
    let next = kept_one now new c.in_ok-latest.latest c.in_ok-latest.ensures.keeps c.in_ok-latest.ensures.cause c.in_ok-latest.ensures.sure in
    reads_ok old new _ (kept_then old now new kept next)
