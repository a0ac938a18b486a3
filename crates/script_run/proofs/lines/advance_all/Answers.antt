use Rattle.std.proofs.Common.{◌≡◌, List, length, arith, ap, refl, rules, sym, subst}
use Rattle.std.specs.List.{AllByRecursion}
use Rattle.ubifs_base.specs.declared.raw_geometry.RawGeometry.{RawGeometry}
use Rattle.script_text.specs.declared.part.Part.{Part}
use Rattle.script_text.specs.Script.{IsInRange, Leads}
use Rattle.script_run.specs.Phases.{ArePhases, HasAdvanced}
use Rattle.script_run.specs.Sessions.{IsSession, running_of, state_in}
use Rattle.script_run.proofs.PhaseRuns.{run_ends}
use Rattle.script_run.proofs.PlayedLines.{next_stands, place_of, played_more}
use Rattle.script_run.proofs.lines.advance_all.Goals as goal

pub advance-requires-clause-ready : goal.advance-requires-clause-ready
advance-requires-clause-ready g c κs within =
    let ready = c.loop-part.invariant.ready in
    (subst (λ (geo : RawGeometry). IsSession geo c.loop-part.gathered.session) (sym ready.0.steady.geometry) ready.0, ready.1)

pub advance-requires-clause-part : goal.advance-requires-clause-part
advance-requires-clause-part g c κs within =
    let start = place_of c.args.gathered.session c.args.gathered.lines.items in
    let here = c.loop-part.gathered in
    next_stands (state_in c.args.gathered.session).geometry start c.args.parts.items c.args.text.now.items here.session here.lines.items c.loop-part.part-iterator.rest.items c.next.new.self.rest.items c.in-Some.part c.loop-part.text.items c.loop-part.invariant
    c.in-Some.ensures.steps.0

pub advance-requires-clause-few : goal.advance-requires-clause-few
advance-requires-clause-few g c κs within =
    let few = c.loop-part.invariant.few in
    omega (arith, few)

pub loop-part-init : goal.loop-part-init
loop-part-init g c =
    let old = c.args.gathered in
    let geo = (state_in old.session).geometry in
    let rest = c.into_iter-part-iterator.result.rest.items in
    let all : rest ≡ c.args.parts.items = search rules in
    let many : length rest ≡ length c.args.parts.items = ap (λ (parts : List Part). length parts) all in
    let few = c.requires.few in
    let order = c.requires.order in
    record {
      ready = c.requires.ready;
      run = λ more last run. (more, subst (λ (parts : List Part). ArePhases geo (running_of old.session) old.lines.items parts more last) all run, refl);
      order = (order.0, subst (λ (parts : List Part). Leads old.session.mounted parts order.0) (sym all) order.1);
      range = subst (AllByRecursion IsInRange) (sym all) c.requires.range;
      few = omega (arith, many, few);
    }

pub loop-part-preserved : goal.loop-part-preserved
loop-part-preserved g c =
    let geo = (state_in c.args.gathered.session).geometry in
    let start = place_of c.args.gathered.session c.args.gathered.lines.items in
    let old = c.loop-part.gathered in
    let new = c.in_ok-gathered.gathered in
    let was = c.loop-part.invariant in
    let same = was.ready.0.steady.geometry in
    let made = c.in_ok-gathered.ensures in
    let step = made.step in
    let ready = made.ready in
    let advanced = subst (λ (g : RawGeometry). HasAdvanced g (place_of old.session old.lines.items) c.in-Some.part step.0 (place_of new.session new.lines.items)) same step.1 in
    played_more geo start c.args.parts.items c.args.text.now.items old.session new.session old.lines.items new.lines.items c.loop-part.part-iterator.rest.items c.next.new.self.rest.items c.in-Some.part c.loop-part.text.items step.0 c.advance.new.text.items was
    c.in-Some.ensures.steps.0 (subst (λ (g : RawGeometry). IsSession g new.session) same ready.0, ready.1) advanced step.2 made.few

pub returns-clause-ready : goal.returns-clause-ready
returns-clause-ready g c = c.loop-part.invariant.ready

pub returns-clause-run : goal.returns-clause-run
returns-clause-run g c = λ more last phase.
    let here = c.loop-part.gathered in
    let none = c.in-None.ensures.steps.0 in
    c.loop-part.invariant.run more last (run_ends (state_in c.args.gathered.session).geometry (running_of here.session) last here.lines.items c.loop-part.part-iterator.rest.items more (omega (arith, none)) phase)

pub returns-clause-few : goal.returns-clause-few
returns-clause-few g c =
    let few = c.loop-part.invariant.few in
    omega (arith, few)
