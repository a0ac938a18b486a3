use Rattle.std.proofs.Common.{◌≡◌, ◌++◌, ◌+◌, ◌≤◌, ℕ, List, All, [], ◌∷◌, length, arith, ap, refl, sym, subst, ◌∙◌, append-nil, length-append}
use Rattle.std.proofs.lemmas.List.Elements.{All-nil}
use Rattle.script_text.specs.declared.part.Part.{Part}
use Rattle.script_text.specs.Script.{IsInRange, MayStand}
use Rattle.script_phase.specs.declared.lines.CallerLine.{CallerLine}
use Rattle.script_run.specs.declared.lines.Gathered.{Gathered}
use Rattle.script_run.specs.declared.session.Session.{Session}
use Rattle.script_run.specs.Phases.{HasAdvanced, IsTurn}
use Rattle.script_run.specs.Sessions.{AreReady, IsSession, IsWaiting, running_of, state_in}
use Rattle.script_run.proofs.PhaseRuns.{control_advances, ok_both}
use Rattle.script_run.proofs.PlayedLines.{line_ready, place_of}
use Rattle.script_run.proofs.lines.advance.Goals as goal

pub returns-in-Line-clause-ready : goal.returns-in-Line-clause-ready
returns-in-Line-clause-ready g c =
    let old = c.args.gathered in
    let geo = (state_in old.session).geometry in
    let one : CallerLine = record { caller = c.in-Line.caller; op = c.in-Line.op } in
    let stands = subst (λ (part : Part). IsInRange part × MayStand old.session.mounted part) c.in-Line.is c.requires.part in
    ok_both c.waiting.result (λ (new : Gathered). new.session ≡ old.session) (λ (new : Gathered). new.lines.items ≡ old.lines.items ++ one ∷ []) (λ (new : Gathered). AreReady geo new.session new.lines.items)
    (λ new same pushed. line_ready geo old.session new.session old.lines.items new.lines.items c.in-Line.caller c.in-Line.op c.requires.ready stands same pushed) c.waiting.ensures.session c.waiting.ensures.lines

pub returns-in-Line-clause-step : goal.returns-in-Line-clause-step
returns-in-Line-clause-step g c =
    let old = c.args.gathered in
    let geo = (state_in old.session).geometry in
    let text = c.args.text.now.items in
    let place = place_of old.session old.lines.items in
    let one : CallerLine = record { caller = c.in-Line.caller; op = c.in-Line.op } in
    ok_both c.waiting.result (λ (new : Gathered). new.session ≡ old.session) (λ (new : Gathered). new.lines.items ≡ old.lines.items ++ one ∷ [])
    (λ (new : Gathered). (line : List ℕ) × HasAdvanced geo place c.args.part line (place_of new.session new.lines.items) × (text ≡ text ++ line))
    (λ new same pushed.
    let then = place_of new.session new.lines.items in
    let moved = ap (λ (s : Session). place_of s new.lines.items) same ∙ ap (λ (lines : List CallerLine). place_of old.session lines) pushed in
    ([], subst (λ (part : Part). HasAdvanced geo place part [] then) (sym c.in-Line.is) (refl, moved), sym (append-nil text)))
    c.waiting.ensures.session c.waiting.ensures.lines

pub returns-in-Line-clause-few : goal.returns-in-Line-clause-few
returns-in-Line-clause-few g c =
    let old = c.args.gathered in
    let one : CallerLine = record { caller = c.in-Line.caller; op = c.in-Line.op } in
    ok_both c.waiting.result (λ (new : Gathered). new.session ≡ old.session) (λ (new : Gathered). new.lines.items ≡ old.lines.items ++ one ∷ []) (λ (new : Gathered). new.session.number + length new.lines.items ≤ old.session.number + length old.lines.items + 1)
    (λ new same pushed.
    let number : new.session.number ≡ old.session.number = ap (λ (s : Session). s.number) same in
    let longer : length new.lines.items ≡ length old.lines.items + 1 = ap (λ (lines : List CallerLine). length lines) pushed ∙ length-append old.lines.items (one ∷ []) in
    omega (arith, number, longer))
    c.waiting.ensures.session c.waiting.ensures.lines

pub returns-in_default-clause-ready : goal.returns-in_default-clause-ready
returns-in_default-clause-ready g c =
    let geo = (state_in c.args.gathered.session).geometry in
    ok_both c.turn.result (λ (new : Gathered). IsSession geo new.session) (λ (new : Gathered). new.lines.items ≡ []) (λ (new : Gathered). AreReady geo new.session new.lines.items)
    (λ new fits none. (fits, subst (All (IsWaiting new.session.mounted)) (sym none) (All-nil (IsWaiting new.session.mounted)))) c.turn.ensures.session c.turn.ensures.lines

pub returns-in_default-clause-step : goal.returns-in_default-clause-step
returns-in_default-clause-step g c =
    let old = c.args.gathered in
    let geo = (state_in old.session).geometry in
    let place = place_of old.session old.lines.items in
    let before = c.args.text.now.items in
    let after = c.turn.new.text.items in
    ok_both c.turn.result (λ (new : Gathered). (more : List ℕ) × IsTurn geo (running_of old.session) old.lines.items c.args.part more (running_of new.session) × (after ≡ before ++ more)) (λ (new : Gathered). new.lines.items ≡ [])
    (λ (new : Gathered). (line : List ℕ) × HasAdvanced geo place c.args.part line (place_of new.session new.lines.items) × (after ≡ before ++ line))
    (λ new turn none. (turn.0, control_advances geo place (place_of new.session new.lines.items) c.args.part turn.0 c.in_default.not-Line turn.1 none, turn.2)) c.turn.ensures.turn c.turn.ensures.lines

pub returns-in_default-clause-few : goal.returns-in_default-clause-few
returns-in_default-clause-few g c =
    let old = c.args.gathered in
    ok_both c.turn.result (λ (new : Gathered). new.session.number ≤ old.session.number + length old.lines.items + 1) (λ (new : Gathered). new.lines.items ≡ []) (λ (new : Gathered). new.session.number + length new.lines.items ≤ old.session.number + length old.lines.items + 1)
    (λ new few none.
    let no : length new.lines.items ≡ 0 = ap (λ (lines : List CallerLine). length lines) none in
    omega (arith, few, no))
    c.turn.ensures.few c.turn.ensures.lines
