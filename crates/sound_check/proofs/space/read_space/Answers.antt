use Rattle.std.proofs.Common.{◌∙◌, length, ap, refl, sym}
use Rattle.ubifs_base.specs.RawOf.{raw_of}
use Rattle.sound_image.specs.Breaches.{IsFirstBreach, IsWrittenEnd, IsWrongSum}
use Rattle.sound_image.specs.Wrong.{IsFirstWrong}
use Rattle.sound_image.specs.declared.rule.Rule.TheVariants as rules
use Rattle.image_check.specs.Told.{IsBreachOf, TellsBreach}
use Rattle.sound_check.proofs.Firsts.{err_told, first_same}
use Rattle.sound_check.proofs.Kept.{exit_broken, exit_reads, failed_stage, failed_then, kept_one, kept_stage, kept_then, reads_err, reads_ok, same_holds}
use Rattle.sound_check.proofs.Shapes.{geometry_kept}
use Rattle.sound_check.proofs.Spaces.{ends_here, first_of_ends, first_of_orphans, first_of_sums, orphans_met, sums_here}
use Rattle.sound_check.proofs.Stages.{up_to_same}
use Rattle.sound_check.proofs.space.read_space.Goals as goal

pub returns-in_err-found-clause-reads : goal.returns-in_err-found-clause-reads
returns-in_err-found-clause-reads g c =
    exit_reads _ _ c.in_err-found.field-0.0 c.from_residual.result c.from_residual.ensures.1 (failed_stage _ _ (g.V.Volume.state c.args.volume.now) (g.V.Volume.state c.read_leaves.new.volume) c.in_err-found.field-0.0 c.in_err-found.ensures.reads)

pub add_up-requires : goal.add_up-requires
add_up-requires g c = c.in_ok-found.ensures.met.1.before.count

pub returns-in_err-add_up-clause-broken : goal.returns-in_err-add_up-clause-broken
returns-in_err-add_up-clause-broken g c =
    let old = g.V.Volume.state c.args.volume.now in
    let found = c.in_ok-found.found in
    let image = c.in_ok-found.ensures.met.0 in
    let fault = c.in_err-add_up.field-0.0 in
    let told = err_told (TellsBreach (IsBreachOf rules.Sums (IsFirstWrong (IsWrongSum (raw_of found.journal.areas.begun.geometry) found.journal.areas.props.items image.placed)))) c.add_up.result fault c.in_err-add_up.was (c.add_up.ensures.broken image.placed c.in_ok-found.ensures.met.1.before.index) in
    exit_broken (TellsBreach (IsFirstBreach old.holds)) fault c.from_residual-in_err-add_up.result c.from_residual-in_err-add_up.ensures.1
    (first_of_sums old.holds found.journal image found.journal.areas.props.items refl c.a_breach_is_first.ensures c.in_ok-found.ensures.met.1.before fault told)

pub returns-in_err-add_up-clause-reads : goal.returns-in_err-add_up-clause-reads
returns-in_err-add_up-clause-reads g c =
    let old = g.V.Volume.state c.args.volume.now in
    let one = g.V.Volume.state c.read_leaves.new.volume in
    exit_reads old one c.in_err-add_up.field-0.0 c.from_residual-in_err-add_up.result c.from_residual-in_err-add_up.ensures.1
    (reads_err _ old one c.in_err-add_up.field-0.0 c.in_err-add_up.ensures.no_volume (kept_stage old one c.in_ok-found.found c.in_ok-found.ensures.reads))

pub check_ends-requires-clause-geometry : goal.check_ends-requires-clause-geometry
check_ends-requires-clause-geometry g c = c.in_ok-found.ensures.geometry

pub check_ends-requires-clause-props : goal.check_ends-requires-clause-props
check_ends-requires-clause-props g c = ap length c.as_slice.ensures.value ∙ c.in_ok-found.ensures.met.1.before.count

pub returns-in_err-check_ends-clause-broken : goal.returns-in_err-check_ends-clause-broken
returns-in_err-check_ends-clause-broken g c =
    let old = g.V.Volume.state c.args.volume.now in
    let one = g.V.Volume.state c.read_leaves.new.volume in
    let found = c.in_ok-found.found in
    let image = c.in_ok-found.ensures.met.0 in
    let before = c.in_ok-found.ensures.met.1.before in
    let fault = c.in_err-check_ends.field-0.0 in
    let same = same_holds old one c.in_ok-found.ensures.reads.keeps in
    let here = sums_here old.holds one.holds found.journal image c.add_up.result _ c.in_ok-add_up.was (c.add_up.ensures.met image.placed before.index) same before in
    let told = err_told (TellsBreach (IsBreachOf rules.Ends (IsFirstWrong (IsWrittenEnd one.holds (raw_of found.journal.areas.begun.geometry) found.journal.areas.begun.latest.master c.as_slice.result.now image.log)))) c.check_ends.result fault c.in_err-check_ends.was (c.check_ends.ensures.broken image.log (sym before.said.references_are ∙ sym c.as_slice-2.ensures.value)) in
    exit_broken (TellsBreach (IsFirstBreach old.holds)) fault c.from_residual-in_err-check_ends.result c.from_residual-in_err-check_ends.ensures.1
    (first_same old.holds one.holds same fault (first_of_ends one.holds found.journal image c.as_slice.result.now c.as_slice.ensures.value c.a_breach_is_first.ensures here fault told))

pub returns-in_err-check_ends-clause-reads : goal.returns-in_err-check_ends-clause-reads
returns-in_err-check_ends-clause-reads g c =
    let old = g.V.Volume.state c.args.volume.now in
    let one = g.V.Volume.state c.read_leaves.new.volume in
    let new = g.V.Volume.state c.check_ends.new.volume in
    exit_reads _ _ c.in_err-check_ends.field-0.0 c.from_residual-in_err-check_ends.result c.from_residual-in_err-check_ends.ensures.1
    (failed_then (Unit {0}) _ old one new c.in_err-check_ends.field-0.0 (kept_stage old one c.in_ok-found.found c.in_ok-found.ensures.reads) c.in_err-check_ends.ensures.keeps c.in_err-check_ends.ensures.cause c.in_err-check_ends.ensures.sure)

pub check_orphans-requires : goal.check_orphans-requires
check_orphans-requires g c =
    record { geometry = geometry_kept (raw_of c.in_ok-found.found.journal.areas.begun.geometry) (g.V.Volume.state c.read_leaves.new.volume) (g.V.Volume.state c.check_ends.new.volume) c.in_ok-check_ends.ensures.keeps.1 c.in_ok-found.ensures.geometry }

pub returns-in_err-check_orphans-clause-broken : goal.returns-in_err-check_orphans-clause-broken
returns-in_err-check_orphans-clause-broken g c =
    let old = g.V.Volume.state c.args.volume.now in
    let one = g.V.Volume.state c.read_leaves.new.volume in
    let two = g.V.Volume.state c.check_ends.new.volume in
    let found = c.in_ok-found.found in
    let image = c.in_ok-found.ensures.met.0 in
    let before = c.in_ok-found.ensures.met.1.before in
    let fault = c.in_err-check_orphans.field-0.0 in
    let same = same_holds old one c.in_ok-found.ensures.reads.keeps in
    let next = same_holds one two c.in_ok-check_ends.ensures.keeps.0 in
    let here = sums_here old.holds one.holds found.journal image c.add_up.result _ c.in_ok-add_up.was (c.add_up.ensures.met image.placed before.index) same before in
    let ends = c.check_ends.ensures.met image.log (sym before.said.references_are ∙ sym c.as_slice-2.ensures.value) in
    let there = ends_here one.holds two.holds found.journal image c.as_slice.result.now c.as_slice.ensures.value c.check_ends.result _ c.in_ok-check_ends.was ends next here in
    exit_broken (TellsBreach (IsFirstBreach old.holds)) fault c.from_residual-in_err-check_orphans.result c.from_residual-in_err-check_orphans.ensures.1
    (first_same old.holds two.holds (next ∙ same) fault (first_of_orphans two.holds found.journal image c.a_breach_is_first.ensures there fault c.in_err-check_orphans.ensures.broken))

pub returns-in_err-check_orphans-clause-reads : goal.returns-in_err-check_orphans-clause-reads
returns-in_err-check_orphans-clause-reads g c =
    let old = g.V.Volume.state c.args.volume.now in
    let one = g.V.Volume.state c.read_leaves.new.volume in
    let two = g.V.Volume.state c.check_ends.new.volume in
    let new = g.V.Volume.state c.check_orphans.new.volume in
    let first = kept_stage old one c.in_ok-found.found c.in_ok-found.ensures.reads in
    let second = kept_one {T = Unit {0}} one two tt c.in_ok-check_ends.ensures.keeps c.in_ok-check_ends.ensures.cause c.in_ok-check_ends.ensures.sure in
    exit_reads _ _ c.in_err-check_orphans.field-0.0 c.from_residual-in_err-check_orphans.result c.from_residual-in_err-check_orphans.ensures.1
    (failed_then (Unit {0}) _ old two new c.in_err-check_orphans.field-0.0 (kept_then old one two first second) c.in_err-check_orphans.ensures.keeps c.in_err-check_orphans.ensures.cause c.in_err-check_orphans.ensures.sure)

pub returns-clause-met : goal.returns-clause-met
returns-clause-met g c =
    let old = g.V.Volume.state c.args.volume.now in
    let one = g.V.Volume.state c.read_leaves.new.volume in
    let two = g.V.Volume.state c.check_ends.new.volume in
    let found = c.in_ok-found.found in
    let image = c.in_ok-found.ensures.met.0 in
    let before = c.in_ok-found.ensures.met.1.before in
    let same = same_holds old one c.in_ok-found.ensures.reads.keeps in
    let next = same_holds one two c.in_ok-check_ends.ensures.keeps.0 in
    let here = sums_here old.holds one.holds found.journal image c.add_up.result _ c.in_ok-add_up.was (c.add_up.ensures.met image.placed before.index) same before in
    let ends = c.check_ends.ensures.met image.log (sym before.said.references_are ∙ sym c.as_slice-2.ensures.value) in
    let there = ends_here one.holds two.holds found.journal image c.as_slice.result.now c.as_slice.ensures.value c.check_ends.result _ c.in_ok-check_ends.was ends next here in
    let all = up_to_same rules.Tree two.holds old.holds found.journal image (next ∙ same) (orphans_met two.holds found.journal image there c.in_ok-check_orphans.ensures.met) in
    (image, record { before = all; tree = c.in_ok-found.ensures.met.1.tree })

pub returns-clause-reads : goal.returns-clause-reads
returns-clause-reads g c =
    let old = g.V.Volume.state c.args.volume.now in
    let one = g.V.Volume.state c.read_leaves.new.volume in
    let two = g.V.Volume.state c.check_ends.new.volume in
    let new = g.V.Volume.state c.check_orphans.new.volume in
    let first = kept_stage old one c.in_ok-found.found c.in_ok-found.ensures.reads in
    let second = kept_one {T = Unit {0}} one two tt c.in_ok-check_ends.ensures.keeps c.in_ok-check_ends.ensures.cause c.in_ok-check_ends.ensures.sure in
    let third = kept_one {T = Unit {0}} two new tt c.in_ok-check_orphans.ensures.keeps c.in_ok-check_orphans.ensures.cause c.in_ok-check_orphans.ensures.sure in
    reads_ok old new _ (kept_then old two new (kept_then old one two first second) third)
