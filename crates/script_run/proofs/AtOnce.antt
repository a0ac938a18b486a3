-- A phase of many callers, as the script knows of it.
use Rattle.std.proofs.Common.{◌≡◌, ◌⊎◌, inl, inr, ℕ, ◌+◌, ◌-◌, ◌*◌, ◌<◌, ◌≤◌, max, Bool, true, List, [], ◌∷◌, ◌++◌, length, All, refl, sym, ap, subst, ◌∙◌, arith}
use Rattle.std.proofs.lemmas.List.Elements.{All-cons, All-head, All-nil, All-tail}
use Rattle.ubifs_base.specs.declared.raw_geometry.RawGeometry.{RawGeometry}
use Rattle.fs_model.specs.declared.backing_answers.Mode.{Mode}
use Rattle.fs_model.specs.declared.backing_answers.Mode.TheVariants.{ReadWrite}
use Rattle.fs_model.specs.declared.refusal.NoSpace.{NoSpace}
use Rattle.fs_model.specs.declared.refusal.Refusal.{Refusal}
use Rattle.fs_model.specs.declared.refusal.Refusal.TheVariants.{Enospc, Erofs, Eio, Enomem, Enfile}
use Rattle.fs_model.specs.declared.refusal.Table.TheVariants.{Orphans}
use Rattle.fs_model.specs.declared.space.Need.{Need}
use Rattle.fs_model.specs.declared.trace.TraceLine.{TraceLine}
use Rattle.fs_model.specs.Backing.{next_orphans}
use Rattle.fs_model.specs.Cover.{index_lebs}
use Rattle.fs_model.specs.Files.{Files, Tree}
use Rattle.fs_model.specs.Legal.{AreLines, AreSides, IsPlain, IsRefusal, IsRefused, Opening, Place, behind, least_room, most_asked, most_needed, most_weight}
use Rattle.fs_model.specs.Orphan.{nameless}
use Rattle.small_areas.specs.Orphans.{orphan_limit}
use Rattle.fs_laws.specs.Sound.{IsCall}
use Rattle.buffered_files.specs.declared.kept.Kept.{Kept}
use Rattle.buffered_files.specs.Calls.{full_weight}
use Rattle.buffered_files.specs.Present.{IsKept, present}
use Rattle.plain_backing.specs.declared.backing.PlainBacking.{PlainBacking}
use Rattle.plain_backing.specs.PlainBacking.{outlook_of, backing_state_of}
use Rattle.vfs_ops.specs.FilesState.{FilesState}
use Rattle.traced_files.specs.History.{AreRoomsTold, first_place, grown_weight, opening_of, place_after}
use Rattle.traced_files.specs.Seen.{LeavesSeen}
use Rattle.script_phase.specs.declared.lines.CallerLine.{CallerLine}
use Rattle.script_phase.specs.Phases.{HasSameLimits, IsOneTrace, IsUnfailing, callers_in}
use Rattle.script_run.specs.Phases.{AreServedTogether, opened_on, trace_text}
use Rattle.script_run.specs.Run.{ScriptRunning, orphans_told}
use Rattle.script_run.specs.Sessions.{IsSteady, IsWaiting}
use Rattle.script_run.proofs.Leaving.{stored_left}

-- files over a plain backing, and the opening of a phase over them
abbrev pub over : PlainBacking → Kept → List NoSpace → FilesState
over backing kept refused = record { backing = backing_state_of backing; kept = kept; refused = refused }

abbrev pub opened_over : PlainBacking → Kept → List NoSpace → ℕ → Opening
opened_over backing kept refused callers = opening_of (over backing kept refused) (outlook_of backing) callers

-- what a script keeps of a backing that a phase asks for, and the other way round
pub unfailing_of : (geo : RawGeometry) (backing : PlainBacking) (kept : Kept) → IsSteady geo backing kept → IsUnfailing backing kept
unfailing_of geo backing kept steady = record { mode = steady.mode; faults = steady.faults; sure = (steady.strike, steady.covers); credits = steady.credits }

pub steady_of : (geo : RawGeometry) (old new : PlainBacking) (before after : Kept) → IsSteady geo old before → HasSameLimits old new → IsUnfailing new after → IsSteady geo new after
steady_of geo old new before after was laid is = record {
  geometry = laid.0 ∙ was.geometry;
  mode = is.mode;
  faults = is.faults;
  strike = is.sure.0;
  covers = is.sure.1;
  orphans = laid.1 ∙ was.orphans;
  credits = is.credits;
}

-- Two openings of which lines say the same.
pub record IsAsMuch (a b : Opening) : Type 0 where
  pub asked : (place : Place) (line : TraceLine) → most_asked a place line ≡ most_asked b place line
  pub weight : (lines : List TraceLine) → most_weight a lines ≡ most_weight b lines
  pub grown : (lines : List TraceLine) → grown_weight a lines ≡ grown_weight b lines
  pub reached : (lines : List TraceLine) → place_after a lines ≡ place_after b lines
  pub room : (weight : ℕ) (need : Need) → least_room a weight need ≡ least_room b weight need
  pub orphan_room : a.orphan_room ≡ b.orphan_room
  pub orphan_limit : a.orphan_limit ≡ b.orphan_limit

sides_as : (a b : Opening) → IsAsMuch a b → (place : Place) (line : TraceLine) (sides : NoSpace) → AreSides a place line sides → AreSides b place line sides
sides_as a b eq place line sides h =
    let lines = place.before ++ line ∷ [] in
    record {
      exceeds = h.exceeds;
      need = subst (λ (n : Need). sides.need ≤ most_needed place.files.tree n) (eq.asked place line) h.need;
      room = subst (λ (r : ℕ). r ≤ sides.room)
          (ap (λ (w : ℕ). least_room a w (most_asked a place line)) (eq.weight lines) ∙ (ap (λ (n : Need). least_room a (most_weight b lines) n) (eq.asked place line) ∙ eq.room (most_weight b lines) (most_asked b place line))) h.room;
    }

refusal_as : (a b : Opening) → IsAsMuch a b → (place : Place) (mode : Mode) (line : TraceLine) (refusal : Refusal) → IsRefusal a place mode line refusal → IsRefusal b place mode line refusal
refusal_as a b eq place mode line (Enospc sides) h = (h.0, sides_as a b eq place line sides h.1)
refusal_as a b eq place mode line (Erofs cause) h = h
refusal_as a b eq place mode line (Eio count) h = h
refusal_as a b eq place mode line Enomem h = tt
refusal_as a b eq place mode line (Enfile Orphans limit) h = (h.0, h.1, subst (λ (room : ℕ). room ≤ place.orphans) eq.orphan_room h.2, h.3 ∙ eq.orphan_limit)
refusal_as a b eq place mode line refusal h = absurd h

line_as : (a b : Opening) → IsAsMuch a b → (place : Place) (mode : Mode) (line : TraceLine) (after : Files) → IsPlain place mode line after ⊎ IsRefused a place mode line after → IsPlain place mode line after ⊎ IsRefused b place mode line after
line_as a b eq place mode line after (inl plain) = inl plain
line_as a b eq place mode line after (inr r) = inr (record { refusal = r.refusal; told = r.told; why = refusal_as a b eq place mode line r.refusal r.why; same = r.same })

-- lines from the one are lines from the other
pub lines_as : (a b : Opening) → IsAsMuch a b → (mode : Mode) (place : Place) (lines : List TraceLine) (last : Place) → AreLines a mode place lines last → AreLines b mode place lines last
lines_as a b eq mode place [] last h = h
lines_as a b eq mode place (line ∷ lines) last (number, after, how, rest) =
    (number, after, line_as a b eq place mode line after how, lines_as a b eq mode (behind place line after) lines last rest)

-- so does each room that is told
pub rooms_as : (a b : Opening) → IsAsMuch a b → (lines : List TraceLine) → AreRoomsTold a lines → AreRoomsTold b lines
rooms_as a b eq lines rooms before line rest all sides told =
    let heavy : ℕ = grown_weight b (before ++ line ∷ []) in
    let here : Place = place_after b before in
    subst (λ (r : ℕ). r ≤ sides.room)
    (ap (λ (w : ℕ). least_room a w (most_asked a (place_after a before) line)) (eq.grown (before ++ line ∷ []))
    ∙ (ap (λ (p : Place). least_room a heavy (most_asked a p line)) (eq.reached before) ∙ (ap (λ (n : Need). least_room a heavy n) (eq.asked here line) ∙ eq.room heavy (most_asked b here line))))
    (rooms before line rest all sides told)

-- where a script is over this backing
abbrev pub running_over : PlainBacking → Kept → Bool → ℕ → ℕ → ℕ → ScriptRunning
running_over backing kept mounted now number workers = record {
  files = present (backing_state_of backing).tree kept;
  stored = (backing_state_of backing).tree;
  journal = (backing_state_of backing).journal;
  weight = full_weight (backing_state_of backing) kept;
  index = (backing_state_of backing).space.index;
  closed = (backing_state_of backing).closed;
  mounted = mounted;
  now = now;
  number = number;
  workers = workers;
}

-- how many numbers a list of orphans has is told of the files as of the backing
abbrev pub HasSameNameless : PlainBacking → Kept → Type 0
HasSameNameless backing kept = length (nameless (present (backing_state_of backing).tree kept).tree) ≡ length (nameless (backing_state_of backing).tree)

-- what is told of an opening over a backing is what the script knows of it
much_as : (old : PlainBacking) (before : Kept) (noted : List NoSpace) (mounted : Bool) (now number workers callers : ℕ) → IsSteady (backing_state_of old).geometry old before → HasSameNameless old before
    → IsAsMuch (opened_over old before noted callers) (opened_on (backing_state_of old).geometry callers (running_over old before mounted now number workers))
much_as old before noted mounted now number workers callers steady none = record {
  asked = λ place line. refl;
  weight = λ lines. omega arith;
  grown = λ lines. omega arith;
  reached = λ lines. refl;
  room = λ weight need. refl;
  orphan_room = ap (λ (n : ℕ). n - next_orphans (backing_state_of old)) steady.orphans ∙ ap (λ (n : ℕ). orphan_limit (backing_state_of old).geometry.leb_size - (n + (backing_state_of old).closed)) (sym none);
  orphan_limit = steady.orphans;
}

-- a phase of many callers, from its trace
pub at_once_of : (old new : PlainBacking) (before after : Kept) (noted refused : List NoSpace) (mounted : Bool) (now number workers : ℕ) (lines : List CallerLine) (trace : List TraceLine)
    → IsSteady (backing_state_of old).geometry old before → IsSteady (backing_state_of old).geometry new after → HasSameNameless old before → HasSameNameless new after → IsKept (backing_state_of new).tree after → ((tree : Tree) (kept : Kept) → IsKept tree kept → kept.pages.dirty ≡ [] → (present tree kept).tree ≡ tree)
    → LeavesSeen (present (backing_state_of old).tree before) (backing_state_of old).journal trace (backing_state_of new).journal → IsOneTrace (opened_over old before noted (callers_in lines)) now lines trace (over new after refused)
    → AreServedTogether (backing_state_of old).geometry (running_over old before mounted now number workers) lines (trace_text trace) (running_over new after mounted now 0 workers)
at_once_of old new before after noted refused mounted now number workers lines trace was is none_before none_after fits clean left h =
    let callers = callers_in lines in
    let a = opened_over old before noted callers in
    let geo = (backing_state_of old).geometry in
    let b = opened_on geo callers (running_over old before mounted now number workers) in
    let much = much_as old before noted mounted now number workers callers was none_before in
    record {
      trace = trace;
      own = h.own;
      time = h.time;
      last = h.last;
      answered = lines_as a b much ReadWrite (first_place a) trace h.last h.answered;
      asked = h.asked;
      rooms = rooms_as a b much trace h.rooms;
      memory = h.memory;
      faultless = h.faultless;
      printed = refl;
      same = h.same;
      under = record { kept = after; fits = fits; seen = refl };
      left = left;
      stored = stored_left new;
      flushed = λ behind. sym (clean (backing_state_of new).tree after fits (h.flushed behind));
      weight = let grown = h.weight.weight in omega (arith, grown);
      index = subst (λ (w : ℕ). (backing_state_of new).space.index ≤ max (backing_state_of old).space.index (2 * index_lebs geo w)) (much.grown trace) h.weight.index;
      orphans = subst (λ (room : ℕ). room ≤ (orphan_limit geo.leb_size - orphans_told (running_over new after mounted now 0 workers)) + h.last.orphans) much.orphan_room
          (subst (λ (room : ℕ). a.orphan_room ≤ room + h.last.orphans)
          (ap (λ (n : ℕ). n - next_orphans (backing_state_of new)) is.orphans ∙ ap (λ (n : ℕ). orphan_limit geo.leb_size - (n + (backing_state_of new).closed)) (sym none_after)) h.orphans);
      rest = refl;
    }

-- lines that wait are calls of callers, and they wait while the volume is mounted
pub calls_of : (mounted : Bool) (lines : List CallerLine) → All (IsWaiting mounted) lines → All (λ (line : CallerLine). (0 < line.caller) × IsCall line.op) lines
calls_of mounted [] all = All-nil (λ (line : CallerLine). (0 < line.caller) × IsCall line.op)
calls_of mounted (x ∷ xs) all =
    let one = All-head (IsWaiting mounted) x xs all in
    All-cons (λ (line : CallerLine). (0 < line.caller) × IsCall line.op) x xs (one.1, one.2) (calls_of mounted xs (All-tail (IsWaiting mounted) x xs all))

pub mounted_of : (mounted : Bool) (lines : List CallerLine) → 0 < length lines → All (IsWaiting mounted) lines → mounted ≡ true
mounted_of mounted [] some all = absurd (omega (arith, some))
mounted_of mounted (x ∷ xs) some all = (All-head (IsWaiting mounted) x xs all).0
