use Rattle.std.proofs.Common.{◌∙◌, ℕ, List, sym, subst, arith}
use Rattle.std.specs.List.{AllByRecursion}
use Rattle.ubifs_base.specs.RawOf.{raw_of}
use Rattle.media_sys.specs.declared.ref_node.RefNode.{RefNode}
use Rattle.bud_log.specs.Buds.{buds_of}
use Rattle.sound_image.specs.Breaches.{IsFirstBreach, IsWrongInBuds}
use Rattle.sound_image.specs.Log.{HasLog, NamesMain}
use Rattle.sound_image.specs.LogBreaches.{IsBrokenLog}
use Rattle.sound_image.specs.Wrong.{IsFirstWrong}
use Rattle.sound_image.specs.declared.rule.Rule.TheVariants as rules
use Rattle.image_check.specs.Told.{IsBreachOf, TellsBreach}
use Rattle.bud_check.specs.Found.{AreFoundBuds}
use Rattle.sound_check.proofs.Images.{first_of_buds, first_of_log, image_of, journal_read}
use Rattle.sound_check.proofs.Kept.{exit_broken, exit_reads, failed_stage, failed_then, kept_one, kept_stage, kept_then, reads_ok, same_holds}
use Rattle.sound_check.proofs.Shapes.{geometry_kept, log_placed}
use Rattle.sound_check.proofs.journal.read_journal.Goals as goal

pub returns-in_err-areas-clause-reads : goal.returns-in_err-areas-clause-reads
returns-in_err-areas-clause-reads g c =
    exit_reads _ _ c.in_err-areas.field-0.0 c.from_residual.result c.from_residual.ensures.1 (failed_stage _ _ (g.V.Volume.state c.args.volume.now) (g.V.Volume.state c.read_areas.new.volume) c.in_err-areas.field-0.0 c.in_err-areas.ensures.reads)

pub check_log-requires-clause-ring : goal.check_log-requires-clause-ring
check_log-requires-clause-ring g c =
    let areas = c.in_ok-areas.areas in
    log_placed (raw_of areas.begun.geometry) areas.begun.latest.master c.in_ok-areas.ensures.met.1.begun.masters.in_areas

pub check_log-requires-clause-lebs : goal.check_log-requires-clause-lebs
check_log-requires-clause-lebs g c =
    let inside = c.in_ok-areas.areas.begun.geometry.in_range.leb_cnt in
    let whole = c.in_ok-areas.ensures.geometry.leb_cnt in
    omega (arith, inside, whole)

pub returns-in_err-log-clause-broken : goal.returns-in_err-log-clause-broken
returns-in_err-log-clause-broken g c =
    let old = g.V.Volume.state c.args.volume.now in
    let one = g.V.Volume.state c.read_areas.new.volume in
    let areas = c.in_ok-areas.areas in
    let fault = c.in_err-log.field-0.0 in
    let P : (ℕ → List ℕ) → Type 0 = λ holds. TellsBreach (IsBreachOf rules.Log (IsBrokenLog holds (raw_of areas.begun.geometry) areas.begun.latest.master)) fault in
    exit_broken (TellsBreach (IsFirstBreach (g.V.Volume.state c.args.volume.now).holds)) c.in_err-log.field-0.0 c.from_residual-in_err-log.result c.from_residual-in_err-log.ensures.1 (first_of_log old.holds areas c.in_ok-areas.ensures.met.0 c.in_ok-areas.ensures.met.1 c.a_breach_is_first.ensures fault (subst P (same_holds old one c.in_ok-areas.ensures.reads.keeps) c.in_err-log.ensures.broken))

pub returns-in_err-log-clause-reads : goal.returns-in_err-log-clause-reads
returns-in_err-log-clause-reads g c =
    let old = g.V.Volume.state c.args.volume.now in
    let one = g.V.Volume.state c.read_areas.new.volume in
    let new = g.V.Volume.state c.check_log.new.volume in
    exit_reads _ _ c.in_err-log.field-0.0 c.from_residual-in_err-log.result c.from_residual-in_err-log.ensures.1 (failed_then (Unit {0}) _ old one new c.in_err-log.field-0.0 (kept_stage old one c.in_ok-areas.areas c.in_ok-areas.ensures.reads) (c.in_err-log.ensures.keeps, c.in_err-log.ensures.shape) c.in_err-log.ensures.cause c.in_err-log.ensures.sure)

pub check_buds-requires-clause-geometry : goal.check_buds-requires-clause-geometry
check_buds-requires-clause-geometry g c =
    geometry_kept (raw_of c.in_ok-areas.areas.begun.geometry) (g.V.Volume.state c.read_areas.new.volume) (g.V.Volume.state c.check_log.new.volume) c.in_ok-log.ensures.shape c.in_ok-areas.ensures.geometry

pub check_buds-requires-clause-named : goal.check_buds-requires-clause-named
check_buds-requires-clause-named g c =
    let P : List RefNode → Type 0 = λ refs. AllByRecursion (NamesMain (raw_of c.in_ok-areas.areas.begun.geometry)) refs in
    subst P (sym (c.as_slice.ensures.value ∙ c.in_ok-log.ensures.sound.2)) c.in_ok-log.ensures.sound.1.named

pub returns-in_err-buds-clause-broken : goal.returns-in_err-buds-clause-broken
returns-in_err-buds-clause-broken g c =
    let old = g.V.Volume.state c.args.volume.now in
    let one = g.V.Volume.state c.read_areas.new.volume in
    let two = g.V.Volume.state c.check_log.new.volume in
    let areas = c.in_ok-areas.areas in
    let fault = c.in_err-buds.field-0.0 in
    let one_is = same_holds old one c.in_ok-areas.ensures.reads.keeps in
    let two_is = same_holds one two c.in_ok-log.ensures.keeps ∙ one_is in
    let texts = c.in_ok-log.ensures.sound.0 in
    let P : (ℕ → List ℕ) → Type 0 = λ holds. TellsBreach (IsBreachOf rules.Buds (IsFirstWrong (IsWrongInBuds holds (buds_of c.as_slice.result.now)))) fault in
    let Q : (ℕ → List ℕ) → Type 0 = λ holds. HasLog holds (raw_of areas.begun.geometry) areas.begun.latest.master texts in
    exit_broken (TellsBreach (IsFirstBreach (g.V.Volume.state c.args.volume.now).holds)) c.in_err-buds.field-0.0 c.from_residual-in_err-buds.result c.from_residual-in_err-buds.ensures.1 (first_of_buds old.holds areas c.in_ok-areas.ensures.met.0 c.in_ok-areas.ensures.met.1 c.a_breach_is_first.ensures texts c.as_slice.result.now (subst Q one_is c.in_ok-log.ensures.sound.1) (c.as_slice.ensures.value ∙ c.in_ok-log.ensures.sound.2) fault (subst P two_is c.in_err-buds.ensures.broken))

pub returns-in_err-buds-clause-reads : goal.returns-in_err-buds-clause-reads
returns-in_err-buds-clause-reads g c =
    let old = g.V.Volume.state c.args.volume.now in
    let one = g.V.Volume.state c.read_areas.new.volume in
    let two = g.V.Volume.state c.check_log.new.volume in
    let new = g.V.Volume.state c.check_buds.new.volume in
    let first = kept_stage old one c.in_ok-areas.areas c.in_ok-areas.ensures.reads in
    let second = kept_one one two c.in_ok-log.log (c.in_ok-log.ensures.keeps, c.in_ok-log.ensures.shape) c.in_ok-log.ensures.cause c.in_ok-log.ensures.sure in
    exit_reads _ _ c.in_err-buds.field-0.0 c.from_residual-in_err-buds.result c.from_residual-in_err-buds.ensures.1 (failed_then (Unit {0}) _ old two new c.in_err-buds.field-0.0 (kept_then old one two first second) c.in_err-buds.ensures.keeps c.in_err-buds.ensures.cause c.in_err-buds.ensures.sure)

pub returns-clause-met : goal.returns-clause-met
returns-clause-met g c =
    let old = g.V.Volume.state c.args.volume.now in
    let one = g.V.Volume.state c.read_areas.new.volume in
    let two = g.V.Volume.state c.check_log.new.volume in
    let areas = c.in_ok-areas.areas in
    let log = c.in_ok-log.log in
    let buds = c.in_ok-buds.buds in
    let one_is = same_holds old one c.in_ok-areas.ensures.reads.keeps in
    let two_is = same_holds one two c.in_ok-log.ensures.keeps ∙ one_is in
    let texts = c.in_ok-log.ensures.sound.0 in
    let P : (ℕ → List ℕ) → List RefNode → Type 0 = λ holds refs. AreFoundBuds holds (buds_of refs) buds in
    let Q : (ℕ → List ℕ) → Type 0 = λ holds. HasLog holds (raw_of areas.begun.geometry) areas.begun.latest.master texts in
    let found = subst (λ (holds : ℕ → List ℕ). P holds log.references.items) two_is (subst (P two.holds) c.as_slice.ensures.value c.in_ok-buds.ensures.met) in (
      image_of areas.begun areas.props.items c.in_ok-areas.ensures.met.0 texts found.journal.reads,
      journal_read old.holds areas c.in_ok-areas.ensures.met.0 c.in_ok-areas.ensures.met.1 log buds texts (subst Q one_is c.in_ok-log.ensures.sound.1) c.in_ok-log.ensures.sound.2 found,
    )

pub returns-clause-geometry : goal.returns-clause-geometry
returns-clause-geometry g c =
    let one = g.V.Volume.state c.read_areas.new.volume in
    let two = g.V.Volume.state c.check_log.new.volume in
    let new = g.V.Volume.state c.check_buds.new.volume in
    let geo = raw_of c.in_ok-areas.areas.begun.geometry in
    geometry_kept geo two new c.in_ok-buds.ensures.keeps.1 (geometry_kept geo one two c.in_ok-log.ensures.shape c.in_ok-areas.ensures.geometry)

pub returns-clause-reads : goal.returns-clause-reads
returns-clause-reads g c =
    let old = g.V.Volume.state c.args.volume.now in
    let one = g.V.Volume.state c.read_areas.new.volume in
    let two = g.V.Volume.state c.check_log.new.volume in
    let new = g.V.Volume.state c.check_buds.new.volume in
    let first = kept_stage old one c.in_ok-areas.areas c.in_ok-areas.ensures.reads in
    let second = kept_one one two c.in_ok-log.log (c.in_ok-log.ensures.keeps, c.in_ok-log.ensures.shape) c.in_ok-log.ensures.cause c.in_ok-log.ensures.sure in
    let third = kept_one two new c.in_ok-buds.buds c.in_ok-buds.ensures.keeps c.in_ok-buds.ensures.cause c.in_ok-buds.ensures.sure in
    reads_ok old new _ (kept_then old two new (kept_then old one two first second) third)
