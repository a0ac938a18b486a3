use Rattle.std.proofs.Common.{sym, subst, ◌∙◌}
use Rattle.std.proofs.lemmas.Bool.{false≢true}
use Rattle.plain_backing.specs.PlainBacking.{backing_state_of}
use Rattle.script_run.specs.Phases.{AreServedTogether, trace_text}
use Rattle.script_run.specs.Sessions.{IsSteady, running_of, state_in}
use Rattle.script_run.proofs.AtOnce.{at_once_of, calls_of, mounted_of, running_over, steady_of, unfailing_of}
use Rattle.script_run.proofs.phase.serve_all.Goals as goal

pub serve_at_once-requires-clause-unfailing : goal.serve_at_once-requires-clause-unfailing
serve_at_once-requires-clause-unfailing g c κs within = unfailing_of (state_in c.args.session).geometry c.args.session.fs.backing c.args.session.fs.kept c.requires.session.steady

pub serve_at_once-requires-clause-lines : goal.serve_at_once-requires-clause-lines
serve_at_once-requires-clause-lines g c κs within = calls_of c.args.session.mounted c.args.lines.items c.requires.lines

pub returns-clause-session : goal.returns-clause-session
returns-clause-session g c =
    let old = c.args.session.fs in
    let new = c.in_ok-closed.closed.fs in
    let was = c.requires.session in
    let geo = (state_in c.args.session).geometry in
    let steady = steady_of geo old.backing new.backing old.kept new.kept was.steady c.in_ok-closed.ensures.layout c.in_ok-closed.ensures.unfailing in
    record {
      geometry = was.geometry;
      steady = subst (λ fs. IsSteady geo fs.backing fs.kept) (sym c.in_ok-fs.ensures.files) steady;
      bare = λ away. absurd (false≢true (sym away ∙ mounted_of c.args.session.mounted c.args.lines.items c.requires.some c.requires.lines));
    }

pub returns-clause-phase : goal.returns-clause-phase
returns-clause-phase g c =
    let session = c.args.session in
    let geo = (state_in session).geometry in
    let old = session.fs in
    let closed = c.in_ok-closed.closed in
    let new = closed.fs in
    let lines = c.args.lines.items in
    let made = c.in_ok-closed.ensures in
    let was = c.requires.session.steady in
    let steady = steady_of geo old.backing new.backing old.kept new.kept was made.layout made.unfailing in
    let nameless = c.present_files_are_sound.ensures.nameless in
    let served = at_once_of old.backing new.backing old.kept new.kept old.refused.items new.refused.items session.mounted session.now session.number session.workers lines closed.trace.items was steady
    (nameless (backing_state_of old.backing).tree old.kept old.ready.kept_fits) (nameless (backing_state_of new.backing).tree new.kept new.ready.kept_fits) new.ready.kept_fits c.clean_files_are_those_of_the_backing.ensures made.left made.trace in (
      trace_text closed.trace.items,
      subst (λ fs. AreServedTogether geo (running_of session) lines (trace_text closed.trace.items) (running_over fs.backing fs.kept session.mounted session.now 0 session.workers)) (sym c.in_ok-fs.ensures.files) served,
      c.in_ok-fs.ensures.printed,
    )
