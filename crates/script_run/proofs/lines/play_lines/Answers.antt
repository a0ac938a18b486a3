use Rattle.std.proofs.Common.{◌≡◌, Bool, IfOk, [], arith, ap, sym, subst}
use Rattle.ubifs_base.specs.declared.raw_geometry.RawGeometry.{RawGeometry}
use Rattle.ubifs_base.specs.RawOf.{raw_of}
use Rattle.fs_model.specs.Journal.{Journal}
use Rattle.script_text.specs.Script.{Leads}
use Rattle.script_run.specs.declared.lines.PlayedLines.{PlayedLines}
use Rattle.script_run.specs.Phases.{ArePhases}
use Rattle.script_run.specs.Run.{LeavesOnly, ScriptRunning, opening_on}
use Rattle.script_run.specs.Sessions.{IsSession, running_of, state_in}
use Rattle.script_run.proofs.PhaseRuns.{ok_then}
use Rattle.script_run.proofs.lines.play_lines.Goals as goal

pub play_on-requires-clause-session : goal.play_on-requires-clause-session
play_on-requires-clause-session g c κs within =
    let session = c.in_ok-session.session in
    let fits = c.in_ok-session.ensures.session in
    subst (λ (geo : RawGeometry). IsSession geo session) (sym fits.steady.geometry) fits

pub play_on-requires-clause-order : goal.play_on-requires-clause-order
play_on-requires-clause-order g c κs within =
    let order = c.requires.order in
    (order.0, subst (λ (b : Bool). Leads b c.args.parts.items order.0) (sym (ap (λ (s : ScriptRunning). s.mounted) c.in_ok-session.ensures.opening)) order.1)

pub play_on-requires-clause-few : goal.play_on-requires-clause-few
play_on-requires-clause-few g c κs within =
    let number : c.in_ok-session.session.number ≡ 0 = ap (λ (s : ScriptRunning). s.number) c.in_ok-session.ensures.opening in
    let few = c.requires.few in
    omega (arith, number, few)

pub returns-clause-run : goal.returns-clause-run
returns-clause-run g c =
    let geo = raw_of c.args.opening.geometry in
    let tree = c.args.opening.tree in
    let weight = c.args.opening.space.weight in
    let parts = c.args.parts.items in
    let session = c.in_ok-session.session in
    let made = c.in_ok-session.ensures in
    ok_then c.play_on.result (λ (p : PlayedLines). ArePhases (state_in session).geometry (running_of session) [] parts p.text.items (running_of p.session))
    (λ (p : PlayedLines). (first : Journal) × LeavesOnly first tree × ArePhases geo (opening_on tree first weight) [] parts p.text.items (running_of p.session))
    (λ p run.
    let here = subst (λ (g : RawGeometry). ArePhases g (running_of session) [] parts p.text.items (running_of p.session)) made.session.steady.geometry run in
    ((state_in session).journal, made.left, subst (λ (s : ScriptRunning). ArePhases geo s [] parts p.text.items (running_of p.session)) made.opening here))
    c.play_on.ensures.run

pub returns-clause-session : goal.returns-clause-session
returns-clause-session g c =
    subst (λ (geo : RawGeometry). IfOk c.play_on.result (λ (p : PlayedLines). IsSession geo p.session)) c.in_ok-session.ensures.session.steady.geometry c.play_on.ensures.session
