use Rattle.std.proofs.Common.{◌≡◌, ◌++◌, ◌+◌, ◌≤◌, ℕ, List, Bool, IfOk, length, arith, ap, refl, sym, subst, ◌∙◌}
use Rattle.std.proofs.lemmas.List.{append_assoc}
use Rattle.ubifs_base.specs.declared.raw_geometry.RawGeometry.{RawGeometry}
use Rattle.script_text.specs.Script.{MayStand}
use Rattle.script_run.specs.declared.session.Session.{Session}
use Rattle.script_run.specs.Phases.{IsTurn}
use Rattle.script_run.specs.Run.{IsScriptPart}
use Rattle.script_run.specs.Sessions.{IsSession, running_of, state_in}
use Rattle.script_run.proofs.Covering.{session_covers}
use Rattle.script_run.proofs.PhaseRuns.{ok_then}
use Rattle.script_run.proofs.Running.{called}
use Rattle.script_run.proofs.lines.turned.Goals as goal

pub next-requires-clause-session : goal.next-requires-clause-session
next-requires-clause-session g c =
    let fits = c.in_ok-session.ensures.session in
    subst (λ (geo : RawGeometry). IsSession geo c.in_ok-session.session) (sym fits.steady.geometry) fits

pub next-requires-clause-call : goal.next-requires-clause-call
next-requires-clause-call g c = called c.args.part c.requires.part.0

pub next-requires-clause-stands : goal.next-requires-clause-stands
next-requires-clause-stands g c = subst (λ (mounted : Bool). MayStand mounted c.args.part) (sym c.in_ok-session.ensures.mounted) c.requires.part.1

pub next-requires-clause-few : goal.next-requires-clause-few
next-requires-clause-few g c =
    let few = c.requires.few in
    let served = c.in_ok-session.ensures.few in
    omega (arith, few, served)

pub returns-clause-session : goal.returns-clause-session
returns-clause-session g c = subst (λ (geo : RawGeometry). IfOk c.next.result (λ (new : Session). IsSession geo new)) c.in_ok-session.ensures.session.steady.geometry c.next.ensures.session

pub returns-clause-turn : goal.returns-clause-turn
returns-clause-turn g c =
    let geo = (state_in c.args.session).geometry in
    let old = running_of c.args.session in
    let lines = c.args.lines.items in
    let middle = c.in_ok-session.session in
    let first = c.serve_phase.new.text.items in
    let last = c.next.new.text.items in
    let phase = c.in_ok-session.ensures.phase in
    let fits = c.in_ok-session.ensures.session in
    ok_then c.next.result (λ (new : Session). (line : List ℕ) × IsScriptPart (state_in middle).geometry (running_of middle) c.args.part line (running_of new) × (last ≡ first ++ line))
    (λ (new : Session). (more : List ℕ) × IsTurn geo old lines c.args.part more (running_of new) × (last ≡ c.args.text.now.items ++ more))
    (λ new line. (
      phase.0 ++ line.0,
      record {
        middle = running_of middle;
        first = phase.0;
        phase = phase.1;
        covered = session_covers geo middle fits;
        line = line.0;
        control = subst (λ (g : RawGeometry). IsScriptPart g (running_of middle) c.args.part line.0 (running_of new)) fits.steady.geometry line.1;
        printed = refl;
      },
      line.2 ∙ (ap (λ (t : List ℕ). t ++ line.0) phase.2 ∙ append_assoc c.args.text.now.items phase.0 line.0),
    ))
    c.next.ensures.part

pub returns-clause-few : goal.returns-clause-few
returns-clause-few g c =
    let served = c.in_ok-session.ensures.few in
    ok_then c.next.result (λ (new : Session). new.number ≤ c.in_ok-session.session.number + 1) (λ (new : Session). new.number ≤ c.args.session.number + length c.args.lines.items + 1) (λ new few. omega (arith, few, served)) c.next.ensures.few
