use Rattle.std.proofs.Common.{ℕ, List, sym, subst}
use Rattle.leaf_map.specs.Recovered.{recovered_of}
use Rattle.sound_image.specs.Breaches.{IsFirstBreach}
use Rattle.sound_image.specs.Image.{parts_of}
use Rattle.sound_image.specs.Tree.{HasTree}
use Rattle.sound_image.specs.declared.rule.Rule.TheVariants as rules
use Rattle.image_check.specs.Told.{TellsBreach}
use Rattle.tree_check.specs.Told.{AreShownBy}
use Rattle.sound_check.proofs.Firsts.{first_same}
use Rattle.sound_check.proofs.Kept.{exit_broken, exit_reads, failed_stage, failed_then, kept_one, kept_stage, kept_then, reads_err, reads_ok, same_holds}
use Rattle.sound_check.proofs.Spaces.{first_of_links, first_of_tree, journal_of, sound_of}
use Rattle.sound_check.proofs.Stages.{recovered_same}
use Rattle.sound_check.proofs.reading.read_image.Goals as goal

pub returns-in_err-found-clause-keeps : goal.returns-in_err-found-clause-keeps
returns-in_err-found-clause-keeps g c = (c.in_err-found.ensures.reads.keeps, c.in_err-found.ensures.reads.shape)

pub returns-in_err-found-clause-cause : goal.returns-in_err-found-clause-cause
returns-in_err-found-clause-cause g c =
    let old = g.V.Volume.state c.args.volume.now in
    let new = g.V.Volume.state c.read_space.new.volume in
    (exit_reads old new c.in_err-found.field-0.0 c.from_residual.result c.from_residual.ensures.1 (failed_stage _ _ old new c.in_err-found.field-0.0 c.in_err-found.ensures.reads)).cause

pub returns-in_err-found-clause-sure : goal.returns-in_err-found-clause-sure
returns-in_err-found-clause-sure g c =
    let old = g.V.Volume.state c.args.volume.now in
    let new = g.V.Volume.state c.read_space.new.volume in
    (exit_reads old new c.in_err-found.field-0.0 c.from_residual.result c.from_residual.ensures.1 (failed_stage _ _ old new c.in_err-found.field-0.0 c.in_err-found.ensures.reads)).sure

pub returns-in_err-shown-clause-broken : goal.returns-in_err-shown-clause-broken
returns-in_err-shown-clause-broken g c =
    let old = g.V.Volume.state c.args.volume.now in
    let one = g.V.Volume.state c.read_space.new.volume in
    let found = c.in_ok-found.found in
    let image = c.in_ok-found.ensures.met.0 in
    let fault = c.in_err-shown.field-0.0 in
    let same = same_holds old one c.in_ok-found.ensures.reads.keeps in
    let here = recovered_same rules.Tree old.holds one.holds found image (sym same) c.in_ok-found.ensures.met.1 in
    let told = c.in_err-shown.ensures.broken image (journal_of one.holds found.journal image c.as_slice.result.now c.as_slice-2.result.now c.as_slice.ensures.value c.as_slice-2.ensures.value here.before) here.tree in
    exit_broken (TellsBreach (IsFirstBreach old.holds)) fault c.from_residual-in_err-shown.result c.from_residual-in_err-shown.ensures.1
    (first_same old.holds one.holds same fault (first_of_tree one.holds found.journal image c.a_breach_is_first.ensures here.before fault told))

pub returns-in_err-shown-clause-keeps : goal.returns-in_err-shown-clause-keeps
returns-in_err-shown-clause-keeps g c =
    let old = g.V.Volume.state c.args.volume.now in
    let one = g.V.Volume.state c.read_space.new.volume in
    let new = g.V.Volume.state c.check_tree.new.volume in
    let reads = failed_then (Unit {0}) (Unit {0}) old one new c.in_err-shown.field-0.0 (kept_stage old one c.in_ok-found.found c.in_ok-found.ensures.reads) c.in_err-shown.ensures.keeps c.in_err-shown.ensures.cause c.in_err-shown.ensures.sure in
    (reads.keeps, reads.shape)

pub returns-in_err-shown-clause-cause : goal.returns-in_err-shown-clause-cause
returns-in_err-shown-clause-cause g c =
    let old = g.V.Volume.state c.args.volume.now in
    let one = g.V.Volume.state c.read_space.new.volume in
    let new = g.V.Volume.state c.check_tree.new.volume in
    (exit_reads old new c.in_err-shown.field-0.0 c.from_residual-in_err-shown.result c.from_residual-in_err-shown.ensures.1
    (failed_then (Unit {0}) _ old one new c.in_err-shown.field-0.0 (kept_stage old one c.in_ok-found.found c.in_ok-found.ensures.reads) c.in_err-shown.ensures.keeps c.in_err-shown.ensures.cause c.in_err-shown.ensures.sure)).cause

pub returns-in_err-shown-clause-sure : goal.returns-in_err-shown-clause-sure
returns-in_err-shown-clause-sure g c =
    let old = g.V.Volume.state c.args.volume.now in
    let one = g.V.Volume.state c.read_space.new.volume in
    let new = g.V.Volume.state c.check_tree.new.volume in
    (exit_reads old new c.in_err-shown.field-0.0 c.from_residual-in_err-shown.result c.from_residual-in_err-shown.ensures.1
    (failed_then (Unit {0}) _ old one new c.in_err-shown.field-0.0 (kept_stage old one c.in_ok-found.found c.in_ok-found.ensures.reads) c.in_err-shown.ensures.keeps c.in_err-shown.ensures.cause c.in_err-shown.ensures.sure)).sure

pub returns-in_err-check_links-clause-broken : goal.returns-in_err-check_links-clause-broken
returns-in_err-check_links-clause-broken g c =
    let old = g.V.Volume.state c.args.volume.now in
    let one = g.V.Volume.state c.read_space.new.volume in
    let found = c.in_ok-found.found in
    let image = c.in_ok-found.ensures.met.0 in
    let fault = c.in_err-check_links.field-0.0 in
    let same = same_holds old one c.in_ok-found.ensures.reads.keeps in
    let here = recovered_same rules.Tree old.holds one.holds found image (sym same) c.in_ok-found.ensures.met.1 in
    let met = c.in_ok-shown.ensures.met image (journal_of one.holds found.journal image c.as_slice.result.now c.as_slice-2.result.now c.as_slice.ensures.value c.as_slice-2.ensures.value here.before) here.tree in
    let shows = subst (AreShownBy (recovered_of (parts_of image)).kept) (sym c.as_slice-3.ensures.value) met.1 in
    exit_broken (TellsBreach (IsFirstBreach old.holds)) fault c.from_residual-in_err-check_links.result c.from_residual-in_err-check_links.ensures.1
    (first_same old.holds one.holds same fault (first_of_links one.holds found.journal image c.a_breach_is_first.ensures here.before met.0 fault (c.in_err-check_links.ensures.broken (parts_of image) shows)))

pub returns-in_err-check_links-clause-keeps : goal.returns-in_err-check_links-clause-keeps
returns-in_err-check_links-clause-keeps g c =
    let old = g.V.Volume.state c.args.volume.now in
    let one = g.V.Volume.state c.read_space.new.volume in
    let new = g.V.Volume.state c.check_tree.new.volume in
    let second = kept_one one new c.in_ok-shown.shown c.in_ok-shown.ensures.keeps c.in_ok-shown.ensures.cause c.in_ok-shown.ensures.sure in
    let kept = kept_then old one new (kept_stage old one c.in_ok-found.found c.in_ok-found.ensures.reads) second in
    (kept.keeps, kept.shape)

pub returns-in_err-check_links-clause-cause : goal.returns-in_err-check_links-clause-cause
returns-in_err-check_links-clause-cause g c =
    let old = g.V.Volume.state c.args.volume.now in
    let one = g.V.Volume.state c.read_space.new.volume in
    let new = g.V.Volume.state c.check_tree.new.volume in
    let second = kept_one one new c.in_ok-shown.shown c.in_ok-shown.ensures.keeps c.in_ok-shown.ensures.cause c.in_ok-shown.ensures.sure in
    let kept = kept_then old one new (kept_stage old one c.in_ok-found.found c.in_ok-found.ensures.reads) second in
    (exit_reads old new c.in_err-check_links.field-0.0 c.from_residual-in_err-check_links.result c.from_residual-in_err-check_links.ensures.1 (reads_err _ old new c.in_err-check_links.field-0.0 c.in_err-check_links.ensures.no_volume kept)).cause

pub returns-in_err-check_links-clause-sure : goal.returns-in_err-check_links-clause-sure
returns-in_err-check_links-clause-sure g c =
    let old = g.V.Volume.state c.args.volume.now in
    let one = g.V.Volume.state c.read_space.new.volume in
    let new = g.V.Volume.state c.check_tree.new.volume in
    let second = kept_one one new c.in_ok-shown.shown c.in_ok-shown.ensures.keeps c.in_ok-shown.ensures.cause c.in_ok-shown.ensures.sure in
    let kept = kept_then old one new (kept_stage old one c.in_ok-found.found c.in_ok-found.ensures.reads) second in
    (exit_reads old new c.in_err-check_links.field-0.0 c.from_residual-in_err-check_links.result c.from_residual-in_err-check_links.ensures.1 (reads_err _ old new c.in_err-check_links.field-0.0 c.in_err-check_links.ensures.no_volume kept)).sure

pub returns-clause-sound : goal.returns-clause-sound
returns-clause-sound g c =
    let old = g.V.Volume.state c.args.volume.now in
    let one = g.V.Volume.state c.read_space.new.volume in
    let found = c.in_ok-found.found in
    let shown = c.in_ok-shown.shown in
    let image = c.in_ok-found.ensures.met.0 in
    let before = c.in_ok-found.ensures.met.1.before in
    let same = same_holds old one c.in_ok-found.ensures.reads.keeps in
    let here = recovered_same rules.Tree old.holds one.holds found image (sym same) c.in_ok-found.ensures.met.1 in
    let met = c.in_ok-shown.ensures.met image (journal_of one.holds found.journal image c.as_slice.result.now c.as_slice-2.result.now c.as_slice.ensures.value c.as_slice-2.ensures.value here.before) here.tree in
    let shows = subst (AreShownBy (recovered_of (parts_of image)).kept) (sym c.as_slice-3.ensures.value) met.1 in
    let P : (ℕ → List ℕ) → Type 0 = λ holds. HasTree holds (parts_of image) in (
      image,
      sound_of old.holds found.journal image before (subst P same met.0) (c.in_ok-check_links.ensures.met (parts_of image) shows),
      record {
        geo = before.geo;
        latest = before.latest;
        props = before.props;
        index = before.index;
        said = before.said;
        clean = before.clean;
        tree = c.in_ok-found.ensures.met.1.tree;
        shown = met.1;
      },
    )

pub returns-clause-keeps : goal.returns-clause-keeps
returns-clause-keeps g c =
    let old = g.V.Volume.state c.args.volume.now in
    let one = g.V.Volume.state c.read_space.new.volume in
    let new = g.V.Volume.state c.check_tree.new.volume in
    let second = kept_one one new c.in_ok-shown.shown c.in_ok-shown.ensures.keeps c.in_ok-shown.ensures.cause c.in_ok-shown.ensures.sure in
    let kept = kept_then old one new (kept_stage old one c.in_ok-found.found c.in_ok-found.ensures.reads) second in
    (kept.keeps, kept.shape)

pub returns-clause-cause : goal.returns-clause-cause
returns-clause-cause g c =
    let old = g.V.Volume.state c.args.volume.now in
    let one = g.V.Volume.state c.read_space.new.volume in
    let new = g.V.Volume.state c.check_tree.new.volume in
    let second = kept_one one new c.in_ok-shown.shown c.in_ok-shown.ensures.keeps c.in_ok-shown.ensures.cause c.in_ok-shown.ensures.sure in
    (kept_then old one new (kept_stage old one c.in_ok-found.found c.in_ok-found.ensures.reads) second).count

pub returns-clause-sure : goal.returns-clause-sure
returns-clause-sure g c =
    let old = g.V.Volume.state c.args.volume.now in
    let one = g.V.Volume.state c.read_space.new.volume in
    let new = g.V.Volume.state c.check_tree.new.volume in
    let second = kept_one one new c.in_ok-shown.shown c.in_ok-shown.ensures.keeps c.in_ok-shown.ensures.cause c.in_ok-shown.ensures.sure in
    (reads_ok {T = Unit {0}} old new tt (kept_then old one new (kept_stage old one c.in_ok-found.found c.in_ok-found.ensures.reads) second)).sure
