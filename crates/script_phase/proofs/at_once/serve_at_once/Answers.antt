use Rattle.std.proofs.Common.{◌≡◌, ℕ, ◌+◌, ◌<◌, true, List, length, map, get_or, All, rules, sym, ap, subst, ◌∙◌, arith}
use Rattle.std.proofs.lemmas.List.{length-map}
use Rattle.fs_model.specs.declared.trace.TraceLine.{TraceLine}
use Rattle.fs_model.specs.Legal.{IsLegal}
use Rattle.plain_backing.specs.PlainBacking.{outlook_of}
use Rattle.trace_word.specs.Knowledge.{lines_of}
use Rattle.traced_files.specs.History.{IsHistory, present_of}
use Rattle.script_phase.specs.Phases.{AreNumberedFrom, callers_in, last_caller}
use Rattle.script_phase.proofs.AfterPhase.{opened_over, over, trace_of, unfailing_after}
use Rattle.script_phase.proofs.Found.{IsPositive, found_of, pass_of, some_caller, weaken}
use Rattle.script_phase.proofs.NewJobs.{GivesBytes, IsNewPass, all_fresh, all_whole, as_many, count_of, fresh_may, fresh_numbered}
use Rattle.script_phase.proofs.TraceLines.{IsToldOf}
use Rattle.script_phase.proofs.at_once.serve_at_once.Goals as goal

pub jobs_of-requires : goal.jobs_of-requires
jobs_of-requires g c =
    let w = c.in_ok-word.field-0 in
    subst (AreNumberedFrom 0) (sym c.in_ok-word.ensures.passes) (fresh_numbered w.word w.pool c.last_caller-last.result)

pub ran-requires-clause-jobs : goal.ran-requires-clause-jobs
ran-requires-clause-jobs g c κs within =
    let w = c.in_ok-word.field-0 in
    let lines = c.args.lines.items in
    let jobs = c.in_ok-jobs.jobs.items in
    let callers = c.last_caller-last.result in
    let slice : c.as_slice.result.now ≡ lines = search (rules, c.as_slice.ensures) in
    let last : callers ≡ last_caller lines = c.last_caller-last.ensures ∙ ap last_caller slice in
    let many = as_many w.word w.pool callers jobs w.passes.items c.in_ok-jobs.ensures.passes c.in_ok-word.ensures.passes in
    let some = some_caller lines c.requires.some (weaken GivesBytes IsPositive (λ line is. is.0) lines c.requires.lines) in
    (omega (arith, many, last, some), fresh_may w.word w.pool callers c.args.now lines jobs w.passes.items c.in_ok-jobs.ensures.passes c.in_ok-word.ensures.passes c.requires.lines c.in_ok-jobs.ensures.ops)

pub returns-clause-unfailing : goal.returns-clause-unfailing
returns-clause-unfailing g c =
    let old = c.args.fs in
    let new = c.in_ok-closed.closed.fs in
    let ran = c.in_ok-closed.ensures in
    unfailing_after old.backing new.backing old.kept new.kept old.refused.items new.refused.items c.in_ok-word.field-0.ledger.callers c.in_ok-closed.closed.trace.items c.requires.unfailing ran.history.history ran.history.sure ran.credits

pub returns-clause-trace : goal.returns-clause-trace
returns-clause-trace g c =
    let w = c.in_ok-word.field-0 in
    let old = c.args.fs in
    let closed = c.in_ok-closed.closed in
    let new = closed.fs in
    let trace = closed.trace.items in
    let lines = c.args.lines.items in
    let jobs = c.in_ok-jobs.jobs.items in
    let callers = c.last_caller-last.result in
    let slice : c.as_slice.result.now ≡ lines = search (rules, c.as_slice.ensures) in
    let last : callers ≡ last_caller lines = c.last_caller-last.ensures ∙ ap last_caller slice in
    let slice_too : c.as_slice-2.result.now ≡ lines = search (rules, c.as_slice-2.ensures) in
    let of : w.ledger.callers ≡ callers_in lines = c.in_ok-word.ensures.ledger.3 ∙ (c.callers_in-callers.ensures ∙ ap callers_in slice_too) in
    let are = c.in_ok-jobs.ensures.passes in
    let fresh = c.in_ok-word.ensures.passes in
    let many = as_many w.word w.pool callers jobs w.passes.items are fresh in
    let passes : map pass_of jobs ≡ _ = are ∙ fresh in
    let numbered = subst (AreNumberedFrom 0) (sym passes) (fresh_numbered w.word w.pool callers) in
    let new_passes = subst (All (IsNewPass w.word w.pool)) (sym passes) (all_fresh w.word w.pool callers) in
    let traced : c.as_slice-3.result.now ≡ trace = search (rules, c.as_slice-3.ensures) in
    let counts : c.as_slice-4.result.now ≡ map count_of jobs = search (rules, c.as_slice-4.ensures, c.in_ok-counts.ensures) in
    let whole = c.is_whole.ensures in
    let is : c.is_whole.result ≡ true = search (rules, c.if-not-is_whole.false) in
    let has = subst (λ (t : List TraceLine). (k : ℕ) → k < length (map count_of jobs) → lines_of (k + 1) t ≡ get_or (map count_of jobs) k 0) traced
    (subst (λ (cs : List ℕ). (k : ℕ) → k < length cs → lines_of (k + 1) c.as_slice-3.result.now ≡ get_or cs k 0) counts (whole.lines is)) in
    let told = subst (λ (n : ℕ). All (IsToldOf n) trace) (ap length counts ∙ length-map jobs count_of) (subst (λ (t : List TraceLine). All (IsToldOf (length c.as_slice-4.result.now)) t) traced (whole.told is)) in
    let served = all_whole w.word w.pool trace c.args.now lines 0 jobs numbered new_passes c.in_ok-closed.ensures.lines c.in_ok-jobs.ensures.ops (λ k less. ap (λ (n : ℕ). lines_of n trace) (omega arith) ∙ has k less) in
    let found = found_of trace c.args.now lines jobs numbered served (sym last ∙ sym many) (weaken GivesBytes IsPositive (λ line is. is.0) lines c.requires.lines) told in
    let history = subst (λ (n : ℕ). IsHistory (opened_over old.backing old.kept old.refused.items n) old.refused.items trace (over new.backing new.kept new.refused.items)) of c.in_ok-closed.ensures.history.history in
    trace_of old.backing new.backing old.kept new.kept old.refused.items new.refused.items c.args.now lines trace c.requires.unfailing (returns-clause-unfailing g c) history found

pub returns-clause-legal : goal.returns-clause-legal
returns-clause-legal g c =
    let w = c.in_ok-word.field-0 in
    let old = c.args.fs in
    let closed = c.in_ok-closed.closed in
    let new = closed.fs in
    let lines = c.args.lines.items in
    let slice_too : c.as_slice-2.result.now ≡ lines = search (rules, c.as_slice-2.ensures) in
    let of : w.ledger.callers ≡ callers_in lines = c.in_ok-word.ensures.ledger.3 ∙ (c.callers_in-callers.ensures ∙ ap callers_in slice_too) in
    let faults = (returns-clause-unfailing g c).faults in
    subst (λ (n : ℕ). IsLegal (opened_over old.backing old.kept old.refused.items n) closed.trace.items (present_of old.refused.items (over new.backing new.kept new.refused.items) (outlook_of new.backing))) of
    (c.in_ok-closed.ensures.legal (omega (arith, faults)))

pub returns-clause-left : goal.returns-clause-left
returns-clause-left g c = c.in_ok-closed.ensures.history.left c.requires.unfailing.mode
