use Rattle.std.proofs.Common.{◌∙◌, ℕ, List, subst}
use Rattle.ubifs_base.specs.RawOf.{raw_of}
use Rattle.media_lpt.specs.declared.lprop.Lprop.{Lprop}
use Rattle.sound_image.specs.Breaches.{IsFirstBreach}
use Rattle.sound_image.specs.Index.{HasIndex}
use Rattle.sound_image.specs.IndexBreaches.{IsWrongIndex}
use Rattle.sound_image.specs.Properties.{HasProperties}
use Rattle.sound_image.specs.PropertyBreaches.{IsWrongProperty}
use Rattle.sound_image.specs.Wrong.{IsFirstWrong}
use Rattle.sound_image.specs.declared.rule.Rule.TheVariants as rules
use Rattle.image_check.specs.Told.{IsBreachOf, TellsBreach}
use Rattle.sound_check.proofs.Images.{first_of_index, first_of_properties}
use Rattle.sound_check.proofs.Kept.{exit_broken, exit_reads, failed_stage, failed_then, kept_one, kept_stage, kept_then, reads_ok, same_holds}
use Rattle.sound_check.proofs.Shapes.{geometry_kept}
use Rattle.sound_check.proofs.areas.read_areas.Goals as goal

pub returns-in_err-begun-clause-reads : goal.returns-in_err-begun-clause-reads
returns-in_err-begun-clause-reads g c =
    exit_reads _ _ c.in_err-begun.field-0.0 c.from_residual.result c.from_residual.ensures.1 (failed_stage _ _ (g.V.Volume.state c.args.volume.now) (g.V.Volume.state c.begin.new.volume) c.in_err-begun.field-0.0 c.in_err-begun.ensures.reads)

pub check_properties-requires-clause-geometry : goal.check_properties-requires-clause-geometry
check_properties-requires-clause-geometry g c = c.in_ok-begun.ensures.geometry

pub check_properties-requires-clause-placed : goal.check_properties-requires-clause-placed
check_properties-requires-clause-placed g c = c.in_ok-begun.ensures.met.masters.in_areas

pub returns-in_err-props-clause-broken : goal.returns-in_err-props-clause-broken
returns-in_err-props-clause-broken g c =
    let old = g.V.Volume.state c.args.volume.now in
    let now = g.V.Volume.state c.begin.new.volume in
    let begun = c.in_ok-begun.begun in
    let fault = c.in_err-props.field-0.0 in
    let P : (ℕ → List ℕ) → Type 0 = λ holds. TellsBreach (IsBreachOf rules.Properties (IsFirstWrong (IsWrongProperty holds (raw_of begun.geometry) begun.latest.master))) fault in
    exit_broken (TellsBreach (IsFirstBreach (g.V.Volume.state c.args.volume.now).holds)) c.in_err-props.field-0.0 c.from_residual-in_err-props.result c.from_residual-in_err-props.ensures.1 (first_of_properties old.holds begun c.in_ok-begun.ensures.met c.a_breach_is_first.ensures fault (subst P (same_holds old now c.in_ok-begun.ensures.reads.keeps) c.in_err-props.ensures.broken))

pub returns-in_err-props-clause-reads : goal.returns-in_err-props-clause-reads
returns-in_err-props-clause-reads g c =
    let old = g.V.Volume.state c.args.volume.now in
    let now = g.V.Volume.state c.begin.new.volume in
    let new = g.V.Volume.state c.check_properties.new.volume in
    exit_reads _ _ c.in_err-props.field-0.0 c.from_residual-in_err-props.result c.from_residual-in_err-props.ensures.1 (failed_then (Unit {0}) _ old now new c.in_err-props.field-0.0 (kept_stage old now c.in_ok-begun.begun c.in_ok-begun.ensures.reads) c.in_err-props.ensures.keeps c.in_err-props.ensures.cause c.in_err-props.ensures.sure)

pub returns-in_err-index-clause-broken : goal.returns-in_err-index-clause-broken
returns-in_err-index-clause-broken g c =
    let old = g.V.Volume.state c.args.volume.now in
    let one = g.V.Volume.state c.begin.new.volume in
    let two = g.V.Volume.state c.check_properties.new.volume in
    let begun = c.in_ok-begun.begun in
    let fault = c.in_err-index.field-0.0 in
    let props = c.in_ok-props.props.items in
    let one_is = same_holds old one c.in_ok-begun.ensures.reads.keeps in
    let two_is = same_holds one two c.in_ok-props.ensures.keeps.0 ∙ one_is in
    let P : (ℕ → List ℕ) → List Lprop → Type 0 = λ holds ps. TellsBreach (IsBreachOf rules.Index (IsFirstWrong (IsWrongIndex holds (raw_of begun.geometry) begun.latest.master ps))) fault in
    let Q : (ℕ → List ℕ) → Type 0 = λ holds. HasProperties holds (raw_of begun.geometry) begun.latest.master props in
    exit_broken (TellsBreach (IsFirstBreach (g.V.Volume.state c.args.volume.now).holds)) c.in_err-index.field-0.0 c.from_residual-in_err-index.result c.from_residual-in_err-index.ensures.1 (first_of_index old.holds begun c.in_ok-begun.ensures.met c.a_breach_is_first.ensures props (subst Q one_is c.in_ok-props.ensures.met) fault (subst (λ (holds : ℕ → List ℕ). P holds props) two_is (subst (P two.holds) c.as_slice.ensures.value c.in_err-index.ensures.broken)))

pub returns-in_err-index-clause-reads : goal.returns-in_err-index-clause-reads
returns-in_err-index-clause-reads g c =
    let old = g.V.Volume.state c.args.volume.now in
    let one = g.V.Volume.state c.begin.new.volume in
    let two = g.V.Volume.state c.check_properties.new.volume in
    let new = g.V.Volume.state c.check_index.new.volume in
    let first = kept_stage old one c.in_ok-begun.begun c.in_ok-begun.ensures.reads in
    let second = kept_one one two c.in_ok-props.props c.in_ok-props.ensures.keeps c.in_ok-props.ensures.cause c.in_ok-props.ensures.sure in
    exit_reads _ _ c.in_err-index.field-0.0 c.from_residual-in_err-index.result c.from_residual-in_err-index.ensures.1 (failed_then (Unit {0}) _ old two new c.in_err-index.field-0.0 (kept_then old one two first second) c.in_err-index.ensures.keeps c.in_err-index.ensures.cause c.in_err-index.ensures.sure)

pub returns-clause-met : goal.returns-clause-met
returns-clause-met g c =
    let old = g.V.Volume.state c.args.volume.now in
    let one = g.V.Volume.state c.begin.new.volume in
    let two = g.V.Volume.state c.check_properties.new.volume in
    let begun = c.in_ok-begun.begun in
    let geo = raw_of begun.geometry in
    let props = c.in_ok-props.props.items in
    let one_is = same_holds old one c.in_ok-begun.ensures.reads.keeps in
    let two_is = same_holds one two c.in_ok-props.ensures.keeps.0 ∙ one_is in
    let placed = c.in_ok-index.ensures.met.0 in
    let P : (ℕ → List ℕ) → List Lprop → Type 0 = λ holds ps. HasIndex holds geo begun.latest.master ps placed in
    let Q : (ℕ → List ℕ) → Type 0 = λ holds. HasProperties holds geo begun.latest.master props in (
      placed,
      record {
        begun = c.in_ok-begun.ensures.met;
        properties = subst Q one_is c.in_ok-props.ensures.met;
        count = c.in_ok-props.ensures.count;
        index = subst (λ (holds : ℕ → List ℕ). P holds props) two_is (subst (P two.holds) c.as_slice.ensures.value c.in_ok-index.ensures.met.1);
        found = c.in_ok-index.ensures.met.2;
      },
    )

pub returns-clause-geometry : goal.returns-clause-geometry
returns-clause-geometry g c =
    let one = g.V.Volume.state c.begin.new.volume in
    let two = g.V.Volume.state c.check_properties.new.volume in
    let new = g.V.Volume.state c.check_index.new.volume in
    let geo = raw_of c.in_ok-begun.begun.geometry in
    geometry_kept geo two new c.in_ok-index.ensures.keeps.1 (geometry_kept geo one two c.in_ok-props.ensures.keeps.1 c.in_ok-begun.ensures.geometry)

pub returns-clause-reads : goal.returns-clause-reads
returns-clause-reads g c =
    let old = g.V.Volume.state c.args.volume.now in
    let one = g.V.Volume.state c.begin.new.volume in
    let two = g.V.Volume.state c.check_properties.new.volume in
    let new = g.V.Volume.state c.check_index.new.volume in
    let first = kept_stage old one c.in_ok-begun.begun c.in_ok-begun.ensures.reads in
    let second = kept_one one two c.in_ok-props.props c.in_ok-props.ensures.keeps c.in_ok-props.ensures.cause c.in_ok-props.ensures.sure in
    let third = kept_one two new c.in_ok-index.index c.in_ok-index.ensures.keeps c.in_ok-index.ensures.cause c.in_ok-index.ensures.sure in
    reads_ok old new _ (kept_then old two new (kept_then old one two first second) third)
