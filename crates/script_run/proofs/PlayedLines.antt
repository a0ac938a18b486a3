-- A run of the lines of a script, of which some are left.
use Rattle.std.proofs.Common.{◌≡◌, ℕ, ◌+◌, ◌≤◌, ◌++◌, ◌∷◌, [], Bool, List, All, length, arith, ap, sym, subst, ◌∙◌}
use Rattle.std.proofs.lemmas.List.{append_assoc}
use Rattle.std.proofs.lemmas.List.Elements.{All-push}
use Rattle.std.specs.List.{AllByRecursion}
use Rattle.ubifs_base.specs.declared.raw_geometry.RawGeometry.{RawGeometry}
use Rattle.fs_model.specs.declared.op.Op.{Op}
use Rattle.script_text.specs.declared.part.Part.{Part}
use Rattle.script_text.specs.declared.part.Part.TheVariants.{Line}
use Rattle.script_text.specs.Script.{IsInRange, Leads, MayStand}
use Rattle.script_phase.specs.declared.lines.CallerLine.{CallerLine}
use Rattle.script_run.specs.Phases.{ArePhases, HasAdvanced, ScriptPlace}
use Rattle.script_run.specs.Run.{ScriptRunning}
use Rattle.script_run.specs.Sessions.{AreReady, IsWaiting, running_of}
use Rattle.script_run.specs.declared.session.Session.{Session}
use Rattle.script_run.proofs.PhaseRuns.{advance_mounts, advanced}

abbrev pub place_of : Session → List CallerLine → ScriptPlace
place_of session lines = record { here = running_of session; lines = lines }

-- A run of the lines that are left, from here on, is one of all lines, from the start on. What was printed before is in front of both texts.
pub record Playing (geo : RawGeometry) (start : ScriptPlace) (all : List Part) (before : List ℕ) (session : Session) (lines : List CallerLine) (rest : List Part) (text : List ℕ) : Type 0 where
  pub ready : AreReady geo session lines
  pub run : (more : List ℕ) (last : ScriptRunning) → ArePhases geo (running_of session) lines rest more last → (whole : List ℕ) × ArePhases geo start.here start.lines all whole last × (before ++ whole ≡ text ++ more)
  pub order : (last : Bool) × Leads session.mounted rest last
  pub range : AllByRecursion IsInRange rest
  pub few : session.number + length lines + length rest ≤ 100000

-- the next line is in range, and may stand there
pub next_stands : (geo : RawGeometry) (start : ScriptPlace) (all : List Part) (before : List ℕ) (session : Session) (lines : List CallerLine) (left rest : List Part) (part : Part) (text : List ℕ)
    → Playing geo start all before session lines left text → left ≡ part ∷ rest → IsInRange part × MayStand session.mounted part
next_stands geo start all before session lines left rest part text was next =
    let range = subst (AllByRecursion IsInRange) next was.range in
    let order = subst (λ (parts : List Part). Leads session.mounted parts was.order.0) next was.order.1 in
    (range.0, order.0)

-- a line more
pub played_more : (geo : RawGeometry) (start : ScriptPlace) (all : List Part) (before : List ℕ) (old new : Session) (lines then : List CallerLine) (left rest : List Part) (part : Part) (text line after : List ℕ)
    → Playing geo start all before old lines left text → left ≡ part ∷ rest → AreReady geo new then → HasAdvanced geo (place_of old lines) part line (place_of new then) → after ≡ text ++ line
    → new.number + length then ≤ old.number + length lines + 1 → Playing geo start all before new then rest after
played_more geo start all before old new lines then left rest part text line after was next ready step printed more_few =
    let order = subst (λ (parts : List Part). Leads old.mounted parts was.order.0) next was.order.1 in
    let range = subst (AllByRecursion IsInRange) next was.range in
    let lengths : length left ≡ length (part ∷ rest) = ap (λ (parts : List Part). length parts) next in
    let few = was.few in
    record {
      ready = ready;
      run = λ more last run.
          let whole : after ++ more ≡ text ++ (line ++ more) = ap (λ (t : List ℕ). t ++ more) printed ∙ append_assoc text line more in
          let behind = advanced geo (place_of old lines) (place_of new then) part rest line more last step run in
          let all_of = was.run (line ++ more) last (subst (λ (parts : List Part). ArePhases geo (running_of old) lines parts (line ++ more) last) (sym next) behind) in
          (all_of.0, all_of.1, all_of.2 ∙ sym whole);
      order = (was.order.0, subst (λ (b : Bool). Leads b rest was.order.0) (sym (advance_mounts geo (place_of old lines) (place_of new then) part line step)) order.1);
      range = range.1;
      few = omega (arith, few, more_few, lengths);
    }

-- a caller's line waits behind the others
pub line_ready : (geo : RawGeometry) (old new : Session) (lines then : List CallerLine) (caller : ℕ) (op : Op) → AreReady geo old lines → IsInRange (Line caller op) × MayStand old.mounted (Line caller op) → new ≡ old
    → then ≡ lines ++ (record { caller = caller; op = op }) ∷ [] → AreReady geo new then
line_ready geo old new lines then caller op ready stands same pushed =
    let one : CallerLine = record { caller = caller; op = op } in
    let low = stands.0.0.0 in
    subst (λ (s : Session). AreReady geo s then) (sym same)
    (ready.0, subst (All (IsWaiting old.mounted)) (sym pushed) (All-push (IsWaiting old.mounted) lines one ready.1 (stands.1, omega (arith, low), stands.0.1)))
