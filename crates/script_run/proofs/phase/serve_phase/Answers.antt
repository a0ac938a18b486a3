use Rattle.std.proofs.Common.{◌≡◌, ◌++◌, ℕ, Bool, true, false, IfOk, List, ap, rules, subst, sym, ◌∙◌}
use Rattle.script_run.specs.Phases.{IsPhaseOf, is_alone}
use Rattle.script_run.specs.Sessions.{running_of, state_in}
use Rattle.script_run.proofs.PhaseRuns.{some_lines}
use Rattle.script_run.proofs.phase.serve_phase.Goals as goal

pub serve_all-requires-clause-some : goal.serve_all-requires-clause-some
serve_all-requires-clause-some g c κs within =
    let same : c.as_slice.result.now ≡ c.args.lines.items = search (rules, c.as_slice.ensures) in
    some_lines c.args.session.workers c.args.lines.items (ap (is_alone c.args.session.workers) (sym same) ∙ (sym c.is_alone.ensures ∙ c.if-is_alone.false))

pub returns-then-is_alone-clause-phase : goal.returns-then-is_alone-clause-phase
returns-then-is_alone-clause-phase g c =
    let session = c.args.session in
    let lines = c.args.lines.items in
    let same : c.as_slice.result.now ≡ lines = search (rules, c.as_slice.ensures) in
    let is : is_alone session.workers lines ≡ true = ap (is_alone session.workers) (sym same) ∙ (sym c.is_alone.ensures ∙ c.if-is_alone.true) in
    let P : Bool → Type 0 = λ alone. IfOk c.serve_in_turn.result (λ new. (x : List ℕ) × IsPhaseOf alone (state_in session).geometry (running_of session) lines x (running_of new) × (c.serve_in_turn.new.text.items ≡ c.args.text.now.items ++ x)) in
    subst P (sym is) c.serve_in_turn.ensures.served

pub returns-else-is_alone-clause-phase : goal.returns-else-is_alone-clause-phase
returns-else-is_alone-clause-phase g c =
    let session = c.args.session in
    let lines = c.args.lines.items in
    let same : c.as_slice.result.now ≡ lines = search (rules, c.as_slice.ensures) in
    let is : is_alone session.workers lines ≡ false = ap (is_alone session.workers) (sym same) ∙ (sym c.is_alone.ensures ∙ c.if-is_alone.false) in
    let P : Bool → Type 0 = λ alone. IfOk c.serve_all.result (λ new. (x : List ℕ) × IsPhaseOf alone (state_in session).geometry (running_of session) lines x (running_of new) × (c.serve_all.new.text.items ≡ c.args.text.now.items ++ x)) in
    subst P (sym is) c.serve_all.ensures.phase
