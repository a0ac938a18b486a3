use Rattle.std.proofs.Common.{◌≡◌, ◌++◌, ◌∷◌, [], ℕ, List, All, length, arith, ap, refl, rules, sym, subst, ◌∙◌}
use Rattle.std.proofs.lemmas.List.{append-nil, append_assoc}
use Rattle.std.proofs.lemmas.List.Elements.{All-head, All-tail}
use Rattle.ubifs_base.specs.declared.raw_geometry.RawGeometry.{RawGeometry}
use Rattle.script_phase.specs.declared.lines.CallerLine.{CallerLine}
use Rattle.script_run.specs.Phases.{AreServed}
use Rattle.script_run.specs.Run.{IsLineServed, ScriptRunning}
use Rattle.script_run.specs.Sessions.{IsSession, IsWaiting, running_of, state_in}
use Rattle.script_run.proofs.PhaseRuns.{served_ends}
use Rattle.script_run.proofs.phase.serve_lines.Goals as goal

pub serve-requires-clause-mounted : goal.serve-requires-clause-mounted
serve-requires-clause-mounted c =
    let was = c.loop-line.invariant in
    let all = subst (All (IsWaiting c.args.session.now.mounted)) c.in-Some.ensures.steps.0 was.lines in
    was.mounted ∙ (All-head (IsWaiting c.args.session.now.mounted) c.in-Some.line c.next.new.self.rest.items all).0

pub serve-requires-clause-call : goal.serve-requires-clause-call
serve-requires-clause-call c =
    let was = c.loop-line.invariant in
    let all = subst (All (IsWaiting c.args.session.now.mounted)) c.in-Some.ensures.steps.0 was.lines in
    (All-head (IsWaiting c.args.session.now.mounted) c.in-Some.line c.next.new.self.rest.items all).2

pub serve-requires-clause-few : goal.serve-requires-clause-few
serve-requires-clause-few c =
    let was = c.loop-line.invariant.few in
    let few = c.requires.few in
    omega (arith, was, few)

pub loop-line-preserved : goal.loop-line-preserved
loop-line-preserved c =
    let was = c.loop-line.invariant in
    let geo = (state_in c.args.session.now).geometry in
    let old = c.loop-line.session in
    let new = c.serve.new.session in
    let line = c.in-Some.line in
    let rest = c.next.new.self.rest.items in
    let next = c.in-Some.ensures.steps.0 in
    let same = was.session.steady.geometry in
    let step = c.in_ok-serve.ensures.part in
    let one : IsLineServed geo (running_of old) line.caller line.op step.0 (running_of new) = subst (λ (g : RawGeometry). IsLineServed g (running_of old) line.caller line.op step.0 (running_of new)) same step.1 in
    let all = subst (All (IsWaiting c.args.session.now.mounted)) next was.lines in
    let few = was.few in
    let more_few = c.in_ok-serve.ensures.few in
    let lengths : length c.loop-line.line-iterator.rest.items ≡ length (line ∷ rest) = ap (λ (ls : List CallerLine). length ls) next in
    record {
      session = subst (λ (g : RawGeometry). IsSession g new) same c.in_ok-serve.ensures.session;
      mounted = ap (λ (s : ScriptRunning). s.mounted) one.rest ∙ was.mounted;
      lines = All-tail (IsWaiting c.args.session.now.mounted) line rest all;
      few = omega (arith, few, more_few, lengths);
      served = λ more last others.
          let behind : AreServed geo (running_of old) (line ∷ rest) (step.0 ++ more) last = (step.0, running_of new, more, one, others, refl) in
          let before = was.served (step.0 ++ more) last (subst (λ (ls : List CallerLine). AreServed geo (running_of old) ls (step.0 ++ more) last) (sym next) behind) in
          (before.0, before.1, before.2 ∙ (sym (append_assoc c.loop-line.text.items step.0 more) ∙ ap (λ (t : List ℕ). t ++ more) (sym step.2)));
    }

pub loop-line-init : goal.loop-line-init
loop-line-init c =
    let geo = (state_in c.args.session.now).geometry in
    let all : c.into_iter-line-iterator.result.rest.items ≡ c.args.lines.items = search rules in
    let many : length c.into_iter-line-iterator.result.rest.items ≡ length c.args.lines.items = ap (λ (ls : List CallerLine). length ls) all in
    record {
      session = c.requires.session;
      mounted = refl;
      lines = subst (All (IsWaiting c.args.session.now.mounted)) (sym all) c.requires.lines;
      few = omega (arith, many);
      served = λ more last others. (more, subst (λ (ls : List CallerLine). AreServed geo (running_of c.args.session.now) ls more last) all others, refl);
    }

pub returns-clause-served : goal.returns-clause-served
returns-clause-served c =
    let was = c.loop-line.invariant in
    let here = running_of c.loop-line.session in
    let none = c.in-None.ensures.steps.0 in
    let all = was.served [] here (served_ends (state_in c.args.session.now).geometry here c.loop-line.line-iterator.rest.items (omega (arith, none))) in
    (all.0, all.1, sym (append-nil c.loop-line.text.items) ∙ sym all.2)

pub returns-clause-session : goal.returns-clause-session
returns-clause-session c = c.loop-line.invariant.session

pub returns-clause-mounted : goal.returns-clause-mounted
returns-clause-mounted c = c.loop-line.invariant.mounted

pub serve-requires-clause-session : goal.serve-requires-clause-session
serve-requires-clause-session c =
    let fits = c.loop-line.invariant.session in
    subst (λ (geo : RawGeometry). IsSession geo c.loop-line.session) (sym fits.steady.geometry) fits

pub returns-clause-few : goal.returns-clause-few
returns-clause-few c =
    let was = c.loop-line.invariant.few in
    omega (arith, was)
