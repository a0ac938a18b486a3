use Rattle.std.proofs.Common.{◌≡◌, ◌++◌, ℕ, List, refl, rules}
use Rattle.std.specs.Prelude.{codes}
use Rattle.text_lines.specs.Lines.{ended}
use Rattle.script_text.specs.declared.part.Part.TheVariants.{Unmount}
use Rattle.script_run.specs.declared.session.Session.{Session}
use Rattle.script_run.specs.Run.{IsScriptPart, IsUnmounted}
use Rattle.script_run.specs.Sessions.{running_of, state_in}
use Rattle.script_run.proofs.PhaseRuns.{ok_then}
use Rattle.script_run.proofs.session.unmounted.Goals as goal

pub returns-clause-session : goal.returns-clause-session
returns-clause-session c = c.away.ensures.session

pub returns-clause-part : goal.returns-clause-part
returns-clause-part c =
    let session = c.args.session in
    let geo = (state_in session).geometry in
    let line = ended (codes "unmount clean") in
    let after = c.extend_from_slice.new.self.items in
    let printed : after ≡ c.args.text.now.items ++ line = search (rules, c.as_slice.ensures, c.in_ok-extend_from_slice.ensures.items) in
    ok_then c.away.result (λ (new : Session). IsUnmounted geo (running_of session) (running_of new)) (λ (new : Session). (x : List ℕ) × IsScriptPart geo (running_of session) Unmount x (running_of new) × (after ≡ c.args.text.now.items ++ x))
    (λ new done. (line, (refl, done), printed)) c.away.ensures.unmounted

pub returns-clause-few : goal.returns-clause-few
returns-clause-few c = c.away.ensures.few
