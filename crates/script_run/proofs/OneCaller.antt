-- A run of one caller beside no worker: its lines, one after another.
use Rattle.std.proofs.Common.{◌≡◌, ℕ, ◌++◌, Bool, true, List, [], ◌∷◌, refl, sym, ap, subst, ◌∙◌, arith}
use Rattle.std.specs.Prelude.{◌==◌, ◌&&◌}
use Rattle.std.specs.List.{AllByRecursion, list_all}
use Rattle.std.proofs.lemmas.Bool.Decides.{nat_tests}
use Rattle.std.proofs.lemmas.List.{append-nil, append_assoc}
use Rattle.ubifs_base.specs.declared.raw_geometry.RawGeometry.{RawGeometry}
use Rattle.script_text.specs.declared.part.Part.{Part}
use Rattle.script_text.specs.declared.part.Part.TheVariants.{Mount, Unmount, Now, Workers, Line}
use Rattle.script_phase.specs.declared.lines.CallerLine.{CallerLine}
use Rattle.script_run.specs.Phases.{AreServed, IsOfOne, IsPhase, IsPhaseOf, ArePhases, IsTurn, is_alone}
use Rattle.script_run.specs.Run.{IsRun, IsLineServed, ScriptRunning}
use Rattle.script_run.proofs.PhaseRuns.{served_rest}

-- all lines are of this caller
abbrev pub AreOf : ℕ → List CallerLine → Type 0
AreOf one [] = Unit {0}
AreOf one (line ∷ lines) = (line.caller ≡ one) × AreOf one lines

of_more : (one : ℕ) (lines : List CallerLine) (line : CallerLine) → AreOf one lines → line.caller ≡ one → AreOf one (lines ++ line ∷ [])
of_more one [] line of is = (is, tt)
of_more one (x ∷ xs) line of is = (of.0, of_more one xs line of.1 is)

same_test : (a b one : ℕ) → a ≡ one → b ≡ one → (a == b) ≡ true
same_test a b one p q = grind (arith, nat_tests, p, q)

all_same : (one caller : ℕ) (lines : List CallerLine) → caller ≡ one → AreOf one lines → list_all (λ (other : CallerLine). other.caller == caller) lines ≡ true
all_same one caller [] is of = refl
all_same one caller (x ∷ xs) is of = ap (λ (b : Bool). b && list_all (λ (other : CallerLine). other.caller == caller) xs) (same_test x.caller caller one of.0 is) ∙ all_same one caller xs is of.1

alone : (one : ℕ) (lines : List CallerLine) → AreOf one lines → is_alone 0 lines ≡ true
alone one [] of = refl
alone one (x ∷ xs) of = all_same one x.caller xs of.0 of.1

-- so a phase is its lines, one after another
served_alone : (geo : RawGeometry) (one : ℕ) (before after : ScriptRunning) (lines : List CallerLine) (text : List ℕ) → before.workers ≡ 0 → AreOf one lines → IsPhase geo before lines text after → AreServed geo before lines text after
served_alone geo one before after lines text none of h =
    subst (λ (b : Bool). IsPhaseOf b geo before lines text after) (ap (λ (w : ℕ). is_alone w lines) none ∙ alone one lines of) h

-- the last of some lines
pub record IsLastServed (geo : RawGeometry) (before : ScriptRunning) (lines : List CallerLine) (line : CallerLine) (text : List ℕ) (after : ScriptRunning) : Type 0 where
  pub middle : ScriptRunning
  pub first : List ℕ
  pub last : List ℕ
  pub others : AreServed geo before lines first middle
  pub one : IsLineServed geo middle line.caller line.op last after
  pub printed : text ≡ first ++ last

last_served : (geo : RawGeometry) (before after : ScriptRunning) (lines : List CallerLine) (line : CallerLine) (text : List ℕ) → AreServed geo before (lines ++ line ∷ []) text after → IsLastServed geo before lines line text after
last_served geo before after [] line text (first, next, rest, one, none, e) = record {
  middle = before;
  first = [];
  last = first;
  others = (refl, refl);
  one = subst (λ (s : ScriptRunning). IsLineServed geo before line.caller line.op first s) (sym none.1) one;
  printed = e ∙ (ap (λ (t : List ℕ). first ++ t) none.0 ∙ append-nil first);
}
last_served geo before after (x ∷ xs) line text (first, next, rest, one, others, e) =
    let more = last_served geo next after xs line rest others in
    record {
      middle = more.middle;
      first = first ++ more.first;
      last = more.last;
      others = (first, next, more.first, one, more.others, refl);
      one = more.one;
      printed = e ∙ (ap (λ (t : List ℕ). first ++ t) more.printed ∙ sym (append_assoc first more.first more.last));
    }

-- the lines of a phase that has begun, and a run behind them
pub record IsRunBehind (geo : RawGeometry) (before : ScriptRunning) (lines : List CallerLine) (parts : List Part) (text : List ℕ) (after : ScriptRunning) : Type 0 where
  pub middle : ScriptRunning
  pub first : List ℕ
  pub rest : List ℕ
  pub served : AreServed geo before lines first middle
  pub run : IsRun geo middle parts rest after
  pub printed : text ≡ first ++ rest

-- a line that waited stands first in the run
unwaited : (geo : RawGeometry) (before after : ScriptRunning) (lines : List CallerLine) (line : CallerLine) (parts : List Part) (text : List ℕ) → IsRunBehind geo before (lines ++ line ∷ []) parts text after
    → IsRunBehind geo before lines (Line line.caller line.op ∷ parts) text after
unwaited geo before after lines line parts text h =
    let s = last_served geo before h.middle lines line h.first h.served in
    record {
      middle = s.middle;
      first = s.first;
      rest = s.last ++ h.rest;
      served = s.others;
      run = (s.last, h.middle, h.rest, s.one, h.run, refl);
      printed = h.printed ∙ (ap (λ (t : List ℕ). t ++ h.rest) s.printed ∙ append_assoc s.first s.last h.rest);
    }

-- behind a line of another kind no line waits
behind_turn : (geo : RawGeometry) (one : ℕ) (before next after : ScriptRunning) (lines : List CallerLine) (part : Part) (parts : List Part) (text front rest : List ℕ) → before.workers ≡ 0 → AreOf one lines
    → IsTurn geo before lines part front next → IsRunBehind geo next [] parts rest after → text ≡ front ++ rest → IsRunBehind geo before lines (part ∷ parts) text after
behind_turn geo one before next after lines part parts text front rest none of turn more e =
    let served = served_alone geo one before turn.middle lines turn.first none of turn.phase in
    let run = subst (λ (s : ScriptRunning). IsRun geo s parts more.rest after) more.served.1 more.run in
    let all : rest ≡ more.rest = more.printed ∙ ap (λ (t : List ℕ). t ++ more.rest) more.served.0 in
    record {
      middle = turn.middle;
      first = turn.first;
      rest = turn.line ++ more.rest;
      served = served;
      run = (turn.line, next, more.rest, turn.control, run, refl);
      printed = e ∙ (ap (λ (t : List ℕ). front ++ t) all ∙ (ap (λ (t : List ℕ). t ++ more.rest) turn.printed ∙ append_assoc turn.first turn.line more.rest));
    }

-- as many workers as before
still_none : (geo : RawGeometry) (one : ℕ) (before next : ScriptRunning) (lines : List CallerLine) (part : Part) (front : List ℕ) → before.workers ≡ 0 → AreOf one lines → (turn : IsTurn geo before lines part front next)
    → next.workers ≡ turn.middle.workers → next.workers ≡ 0
still_none geo one before next lines part front none of turn same = same ∙ ((served_rest geo before turn.middle lines turn.first (served_alone geo one before turn.middle lines turn.first none of turn.phase)).1 ∙ none)

pub run_behind : (geo : RawGeometry) (one : ℕ) (before after : ScriptRunning) (lines : List CallerLine) (parts : List Part) (text : List ℕ) → before.workers ≡ 0 → AreOf one lines → AllByRecursion (IsOfOne one) parts
    → ArePhases geo before lines parts text after → IsRunBehind geo before lines parts text after
run_behind geo one before after lines [] text none of all h = record {
  middle = after;
  first = text;
  rest = [];
  served = served_alone geo one before after lines text none of h;
  run = (refl, refl);
  printed = sym (append-nil text);
}
run_behind geo one before after lines (Line caller op ∷ parts) text none of all h =
    let x : CallerLine = record { caller = caller; op = op } in
    unwaited geo before after lines x parts text (run_behind geo one before after (lines ++ x ∷ []) parts text none (of_more one lines x of all.0) all.1 h)
run_behind geo one before after lines (Mount ∷ parts) text none of all (front, next, rest, turn, more, e) =
    behind_turn geo one before next after lines Mount parts text front rest none of turn
    (run_behind geo one next after [] parts rest (still_none geo one before next lines Mount front none of turn (ap (λ (s : ScriptRunning). s.workers) turn.control.1)) tt all.1 more) e
run_behind geo one before after lines (Unmount ∷ parts) text none of all (front, next, rest, turn, more, e) =
    behind_turn geo one before next after lines Unmount parts text front rest none of turn
    (run_behind geo one next after [] parts rest (still_none geo one before next lines Unmount front none of turn turn.control.1.workers) tt all.1 more) e
run_behind geo one before after lines (Now now ∷ parts) text none of all (front, next, rest, turn, more, e) =
    behind_turn geo one before next after lines (Now now) parts text front rest none of turn
    (run_behind geo one next after [] parts rest (still_none geo one before next lines (Now now) front none of turn (ap (λ (s : ScriptRunning). s.workers) turn.control.1)) tt all.1 more) e
run_behind geo one before after lines (Workers count ∷ parts) text none of all (front, next, rest, turn, more, e) =
    behind_turn geo one before next after lines (Workers count) parts text front rest none of turn
    (run_behind geo one next after [] parts rest (ap (λ (s : ScriptRunning). s.workers) turn.control.1 ∙ all.0) tt all.1 more) e

-- a script of one caller beside no worker is a run of its lines
pub run_of_one : (geo : RawGeometry) (one : ℕ) (first last : ScriptRunning) (parts : List Part) (text : List ℕ) → first.workers ≡ 0 → AllByRecursion (IsOfOne one) parts → ArePhases geo first [] parts text last → IsRun geo first parts text last
run_of_one geo one first last parts text none all h =
    let b = run_behind geo one first last [] parts text none tt all h in
    subst (λ (t : List ℕ). IsRun geo first parts t last) (sym (b.printed ∙ ap (λ (t : List ℕ). t ++ b.rest) b.served.0))
    (subst (λ (s : ScriptRunning). IsRun geo s parts b.rest last) b.served.1 b.run)
