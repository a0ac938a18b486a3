use Rattle.std.proofs.Common.{◌≡◌, ◌++◌, ℕ, List, All, [], length, arith, ap, sym, subst, ◌∙◌}
use Rattle.std.proofs.lemmas.List.Elements.{All-nil}
use Rattle.ubifs_base.specs.declared.raw_geometry.RawGeometry.{RawGeometry}
use Rattle.script_phase.specs.declared.lines.CallerLine.{CallerLine}
use Rattle.script_run.specs.Phases.{ArePhases, IsPhase}
use Rattle.script_run.specs.Sessions.{IsSession, IsWaiting, running_of, state_in}
use Rattle.script_run.proofs.lines.play_on.Goals as goal

pub advance_all-requires-clause-ready : goal.advance_all-requires-clause-ready
advance_all-requires-clause-ready g c κs within =
    let waiting = IsWaiting c.args.session.mounted in
    (c.requires.session, subst (All waiting) (sym c.new.ensures.items) (All-nil waiting))

pub advance_all-requires-clause-order : goal.advance_all-requires-clause-order
advance_all-requires-clause-order g c κs within = c.requires.order

pub advance_all-requires-clause-few : goal.advance_all-requires-clause-few
advance_all-requires-clause-few g c κs within =
    let none : length c.new.result.items ≡ 0 = ap (λ (lines : List CallerLine). length lines) c.new.ensures.items in
    let few = c.requires.few in
    omega (arith, none, few)

pub serve_phase-requires-clause-session : goal.serve_phase-requires-clause-session
serve_phase-requires-clause-session g c κs within =
    let fits = c.in_ok-gathered.ensures.ready.0 in
    subst (λ (geo : RawGeometry). IsSession geo c.in_ok-gathered.gathered.session) (sym fits.steady.geometry) fits

pub serve_phase-requires-clause-lines : goal.serve_phase-requires-clause-lines
serve_phase-requires-clause-lines g c κs within = c.in_ok-gathered.ensures.ready.1

pub serve_phase-requires-clause-few : goal.serve_phase-requires-clause-few
serve_phase-requires-clause-few g c κs within = c.in_ok-gathered.ensures.few

pub returns-clause-run : goal.returns-clause-run
returns-clause-run g c =
    let geo = (state_in c.args.session).geometry in
    let start = running_of c.args.session in
    let parts = c.args.parts.items in
    let gathered = c.in_ok-gathered.gathered in
    let new = running_of c.in_ok-session.session in
    let phase = c.in_ok-session.ensures.phase in
    let one = subst (λ (g : RawGeometry). IsPhase g (running_of gathered.session) gathered.lines.items phase.0 new) c.in_ok-gathered.ensures.ready.0.steady.geometry phase.1 in
    let all = c.in_ok-gathered.ensures.run phase.0 new one in
    let run = subst (λ (lines : List CallerLine). ArePhases geo start lines parts all.0 new) c.new.ensures.items all.1 in
    subst (λ (t : List ℕ). ArePhases geo start [] parts t new) (sym (ap (λ (t : List ℕ). t ++ all.0) c.new-text.ensures.items) ∙ (all.2 ∙ sym phase.2)) run

pub returns-clause-session : goal.returns-clause-session
returns-clause-session g c = subst (λ (geo : RawGeometry). IsSession geo c.in_ok-session.session) c.in_ok-gathered.ensures.ready.0.steady.geometry c.in_ok-session.ensures.session
