-- A run over phases, line by line.
use Rattle.std.proofs.Common.{◌≡◌, ℕ, ◌<◌, ◌++◌, Bool, true, false, IfOk, Result, Ok, Err, List, [], ◌∷◌, length, refl, sym, ap, subst, ◌∙◌, arith}
use Rattle.std.proofs.lemmas.Bool.{false≢true}
use Rattle.ubifs_base.specs.declared.raw_geometry.RawGeometry.{RawGeometry}
use Rattle.fs_model.specs.declared.op.Op.{Op}
use Rattle.script_text.specs.declared.part.Part.{Part}
use Rattle.script_text.specs.declared.part.Part.TheVariants.{Mount, Unmount, Now, Workers, Line}
use Rattle.script_text.specs.Script.{mounted_after}
use Rattle.script_phase.specs.declared.lines.CallerLine.{CallerLine}
use Rattle.script_run.specs.Phases.{AreServed, HasAdvanced, IsPhase, IsPhaseOf, ArePhases, IsTurn, ScriptPlace, is_alone}
use Rattle.script_run.specs.Run.{ScriptRunning}
use Rattle.script_run.proofs.Running.{mounted_next}

-- one line more in front of a run
turned : (geo : RawGeometry) (old new : ScriptPlace) (part : Part) (parts : List Part) (line text : List ℕ) (after : ScriptRunning) → IsTurn geo old.here old.lines part line new.here → new.lines ≡ [] → ArePhases geo new.here new.lines parts text after
    → (front : List ℕ) × (next : ScriptRunning) × (rest : List ℕ) × IsTurn geo old.here old.lines part front next × ArePhases geo next [] parts rest after × (line ++ text ≡ front ++ rest)
turned geo old new part parts line text after turn none run = (line, new.here, text, turn, subst (λ (ls : List CallerLine). ArePhases geo new.here ls parts text after) none run, refl)

pub advanced : (geo : RawGeometry) (old new : ScriptPlace) (part : Part) (parts : List Part) (line text : List ℕ) (after : ScriptRunning) → HasAdvanced geo old part line new → ArePhases geo new.here new.lines parts text after
    → ArePhases geo old.here old.lines (part ∷ parts) (line ++ text) after
advanced geo old new (Line caller op) parts line text after h run =
    let x : CallerLine = record { caller = caller; op = op } in
    subst (λ (t : List ℕ). ArePhases geo old.here (old.lines ++ x ∷ []) parts (t ++ text) after) (sym h.0) (subst (λ (s : ScriptPlace). ArePhases geo s.here s.lines parts text after) h.1 run)
advanced geo old new Mount parts line text after h run = turned geo old new Mount parts line text after h.0 h.1 run
advanced geo old new Unmount parts line text after h run = turned geo old new Unmount parts line text after h.0 h.1 run
advanced geo old new (Now now) parts line text after h run = turned geo old new (Now now) parts line text after h.0 h.1 run
advanced geo old new (Workers count) parts line text after h run = turned geo old new (Workers count) parts line text after h.0 h.1 run

-- lines that are served leave the volume mounted as it was, and as many workers
pub served_rest : (geo : RawGeometry) (before after : ScriptRunning) (lines : List CallerLine) (text : List ℕ) → AreServed geo before lines text after → (after.mounted ≡ before.mounted) × (after.workers ≡ before.workers)
served_rest geo before after [] text h = (ap (λ (s : ScriptRunning). s.mounted) h.1, ap (λ (s : ScriptRunning). s.workers) h.1)
served_rest geo before after (line ∷ lines) text (first, next, rest, one, others, e) =
    let more = served_rest geo next after lines rest others in
    (more.0 ∙ ap (λ (s : ScriptRunning). s.mounted) one.rest, more.1 ∙ ap (λ (s : ScriptRunning). s.workers) one.rest)

phase_rest : (geo : RawGeometry) (before after : ScriptRunning) (alone : Bool) (lines : List CallerLine) (text : List ℕ) → IsPhaseOf alone geo before lines text after → (after.mounted ≡ before.mounted) × (after.workers ≡ before.workers)
phase_rest geo before after true lines text h = served_rest geo before after lines text h
phase_rest geo before after false lines text h = (ap (λ (s : ScriptRunning). s.mounted) h.rest, ap (λ (s : ScriptRunning). s.workers) h.rest)

turn_mounts : (geo : RawGeometry) (before after : ScriptRunning) (lines : List CallerLine) (part : Part) (text : List ℕ) → IsTurn geo before lines part text after → after.mounted ≡ mounted_after before.mounted part
turn_mounts geo before after lines part text h =
    mounted_next geo h.middle after part h.line h.control ∙ ap (λ (m : Bool). mounted_after m part) (phase_rest geo before h.middle (is_alone before.workers lines) lines h.first h.phase).0

-- whether the volume is mounted then
pub advance_mounts : (geo : RawGeometry) (old new : ScriptPlace) (part : Part) (text : List ℕ) → HasAdvanced geo old part text new → new.here.mounted ≡ mounted_after old.here.mounted part
advance_mounts geo old new (Line caller op) text h = ap (λ (s : ScriptPlace). s.here.mounted) h.1
advance_mounts geo old new Mount text h = turn_mounts geo old.here new.here old.lines Mount text h.0
advance_mounts geo old new Unmount text h = turn_mounts geo old.here new.here old.lines Unmount text h.0
advance_mounts geo old new (Now now) text h = turn_mounts geo old.here new.here old.lines (Now now) text h.0
advance_mounts geo old new (Workers count) text h = turn_mounts geo old.here new.here old.lines (Workers count) text h.0

-- where nothing is left of a script, its last phase is
pub run_ends : (geo : RawGeometry) (here after : ScriptRunning) (lines : List CallerLine) (parts : List Part) (text : List ℕ) → length parts ≡ 0 → IsPhase geo here lines text after → ArePhases geo here lines parts text after
run_ends geo here after lines [] text none phase = phase
run_ends geo here after lines (part ∷ parts) text none phase = absurd (omega (arith, none))

pub served_ends : (geo : RawGeometry) (here : ScriptRunning) (lines : List CallerLine) → length lines ≡ 0 → AreServed geo here lines [] here
served_ends geo here [] none = (refl, refl)
served_ends geo here (line ∷ lines) none = absurd (omega (arith, none))

-- no lines are alone
pub some_lines : (workers : ℕ) (lines : List CallerLine) → is_alone workers lines ≡ false → 0 < length lines
some_lines workers [] is = absurd (false≢true (sym is))
some_lines workers (line ∷ lines) is = omega arith

-- what holds of the value, by two facts of it
pub ok_both : {T E : Type 0} (r : Result T E) (P Q S : T → Type 0) → ((x : T) → P x → Q x → S x) → IfOk r P → IfOk r Q → IfOk r S
ok_both (Ok x) P Q S both p q = both x p q
ok_both (Err e) P Q S both p q = p

-- what holds of the value, by one fact of it
pub ok_then : {T E : Type 0} (r : Result T E) (P Q : T → Type 0) → ((x : T) → P x → Q x) → IfOk r P → IfOk r Q
ok_then (Ok x) P Q then p = then x p
ok_then (Err e) P Q then p = p

-- a line of another kind ends the phase
pub control_advances : (geo : RawGeometry) (old new : ScriptPlace) (part : Part) (text : List ℕ) → ((caller : ℕ) (op : Op) → part ≡ Line caller op → ⊥) → IsTurn geo old.here old.lines part text new.here → new.lines ≡ [] → HasAdvanced geo old part text new
control_advances geo old new Mount text other turn none = (turn, none)
control_advances geo old new Unmount text other turn none = (turn, none)
control_advances geo old new (Now now) text other turn none = (turn, none)
control_advances geo old new (Workers count) text other turn none = (turn, none)
control_advances geo old new (Line caller op) text other turn none = absurd (other caller op refl)
