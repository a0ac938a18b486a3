use Rattle.std.proofs.Common.{◌≡◌, ◌++◌, ◌+◌, ◌≤◌, ℕ, List, arith, sym, subst}
use Rattle.std.specs.Prelude.{IfOk}
use Rattle.script_text.specs.declared.part.Part.{Part}
use Rattle.script_run.specs.declared.session.Session.{Session}
use Rattle.script_run.specs.Run.{IsScriptPart}
use Rattle.script_run.specs.Sessions.{running_of, state_in}
use Rattle.script_run.proofs.PhaseRuns.{ok_then}
use Rattle.script_run.proofs.session.next.Goals as goal

pub went_on-requires-clause-other : goal.went_on-requires-clause-other
went_on-requires-clause-other c = c.in_default.not-Unmount

pub returns-in-Unmount-clause-part : goal.returns-in-Unmount-clause-part
returns-in-Unmount-clause-part c =
    let session = c.args.session in
    let P : Part → Type 0 = λ part. IfOk c.unmounted.result (λ new. (x : List ℕ) × IsScriptPart (state_in session).geometry (running_of session) part x (running_of new) × (c.unmounted.new.text.items ≡ c.args.text.now.items ++ x)) in
    subst P (sym c.in-Unmount.is) c.unmounted.ensures.part

pub returns-in-Unmount-clause-few : goal.returns-in-Unmount-clause-few
returns-in-Unmount-clause-few c =
    ok_then c.unmounted.result (λ (new : Session). new.number ≡ 0) (λ (new : Session). new.number ≤ c.args.session.number + 1) (λ new none. omega (arith, none)) c.unmounted.ensures.few
