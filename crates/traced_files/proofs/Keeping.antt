-- What holds of files whose lines are kept: it holds after a call, and after work between lines.
use Rattle.std.proofs.Common.{◌≡◌, ◌⊎◌, inl, inr, ℕ, ◌+◌, ◌≤◌, true, List, [], ◌∷◌, ◌++◌, length, sym, ap, subst, ◌∙◌, arith}
use Rattle.std.proofs.lemmas.Bool.{false≢true}
use Rattle.atomic_table.specs.Seated.{TableId}
use Rattle.ubifs_base.specs.declared.raw_geometry.RawGeometry.{RawGeometry}
use Rattle.ubifs_base.specs.Areas.{main_lebs}
use Rattle.fs_model.specs.declared.reply.Reply.{Reply}
use Rattle.fs_model.specs.declared.refusal.NoSpace.{NoSpace}
use Rattle.fs_model.specs.declared.trace.TraceLine.{TraceLine}
use Rattle.fs_model.specs.Legal.{Opening}
use Rattle.fs_model.specs.Backing.{BackingState, Outlook}
use Rattle.fs_laws.specs.Sound.{IsCall, IsMoment, IsSound}
use Rattle.buffered_files.specs.Calls.{SureGoes}
use Rattle.buffered_files.specs.Present.{IsKept}
use Rattle.credited_files.specs.Calls.{WasServed, is_work_between}
use Rattle.credited_files.specs.States.{HasOtherCredits}
use Rattle.fs_model.specs.Cover.{tree_bytes}
use Rattle.trace_word.specs.Knowledge.{lines_of}
use Rattle.trace_word.specs.States.{RecorderState}
use Rattle.vfs_ops.specs.declared.event.Event.{Event}
use Rattle.vfs_ops.specs.declared.event.Event.TheVariants.{Call}
use Rattle.vfs_ops.specs.declared.event.Outcome.{Outcome}
use Rattle.vfs_ops.specs.Background.{IsBackgroundStep}
use Rattle.vfs_ops.specs.FilesState.{FilesState, present_in}
use Rattle.vfs_ops.specs.Passing.{IsStep}
use Rattle.vfs_ops.specs.Steps.{IsReady}
use Rattle.traced_files.specs.History.{IsHistory, IsSureSince}
use Rattle.traced_files.specs.Laws.{AreLaws}
use Rattle.traced_files.specs.Replies.{IsToldAs}
use Rattle.traced_files.specs.Seen.{HasLeftSeen}
use Rattle.traced_files.specs.Start.{IsHistoryFrom, Start, opening_at}
use Rattle.traced_files.specs.Traced.{IsTraced}
use Rattle.traced_files.proofs.Going.{IsMadeCall, Stepped}
use Rattle.traced_files.proofs.Histories.{background_goes_on, call_goes_on}
use Rattle.traced_files.proofs.Leaving.{IsJournalTold, background_leaves, call_leaves, opened_leaves}
use Rattle.traced_files.proofs.Legality.{history_opens}

-- what a backing says of a step's states
pub record AreStates (old new : FilesState) : Type 0 where
  pub ready : IsReady old.backing old.kept
  pub after : IsReady new.backing new.kept
  pub used : new.backing.space.used ≡ tree_bytes new.backing.tree
  pub first : old.backing.space.main ≡ main_lebs old.backing.geometry
  pub main : new.backing.space.main ≡ main_lebs new.backing.geometry
  pub journal : IsJournalTold old
  pub journal_after : IsJournalTold new

main_same : (old new : FilesState) → AreStates old new → new.backing.geometry ≡ old.backing.geometry → new.backing.space.main ≡ old.backing.space.main
main_same old new states same = states.main ∙ ap (λ (geo : RawGeometry). main_lebs geo) same ∙ sym states.first

pub sure_on : (start : Start) (old new : BackingState) (before after : Outlook) → IsSureSince (opening_at start) old.faults before → SureGoes before after old new → IsSureSince (opening_at start) new.faults after
sure_on start old new before after since goes sure = by (since sure)
  where
    same : after.spent ⊎ (after.sure × (new.faults ≡ old.faults)) → old.faults ≡ (opening_at start).faults → after.spent ⊎ (after.sure × (new.faults ≡ (opening_at start).faults))
    same (inl spent) is = inl spent
    same (inr still) is = inr (still.0, still.1 ∙ is)

    by : before.spent ⊎ (before.sure × (old.faults ≡ (opening_at start).faults)) → after.spent ⊎ (after.sure × (new.faults ≡ (opening_at start).faults))
    by (inl spent) = inl (goes.spent spent)
    by (inr still) = same (goes.sure still.0) still.1

-- where only other credits are covered, the files may be asked for an event
ready_credits : (old new : FilesState) → IsReady old.backing old.kept → HasOtherCredits old new → length new.kept.pages.dirty ≤ new.backing.space.credits → IsReady new.backing new.kept
ready_credits old new ready only paid = record {
  kept_fits = subst (λ (x : FilesState). IsKept x.backing.tree x.kept) (sym only) ready.kept_fits;
  paid = paid;
  sound = subst (λ (x : FilesState). IsSound (present_in x)) (sym only) ready.sound;
}

-- a history doesn't tell how many credits are covered
pub history_credits : (opening : Opening) (noted : List NoSpace) (lines : List TraceLine) (old new : FilesState) → HasOtherCredits old new → IsHistory opening noted lines old → IsHistory opening noted lines new
history_credits opening noted lines old new only h = subst (λ (x : FilesState). IsHistory opening noted lines x) (sym only) (record {
  last = h.last;
  leads = h.leads;
  replayed = h.replayed;
  same = h.same;
  sound = h.sound;
  mode = h.mode;
  refused = h.refused;
  asked = h.asked;
  rooms = h.rooms;
  counts = h.counts;
  faults = h.faults;
  geometry = h.geometry;
  main = h.main;
  limit = h.limit;
  orphans = h.orphans;
  weight = λ writes. let w = h.weight writes in record { weight = w.weight; index = w.index };
  flushed = h.flushed;
})

-- nor does what a cut leaves
pub left_credits : (start : Start) (lines : List TraceLine) (old new : FilesState) → HasOtherCredits old new → HasLeftSeen start lines old → HasLeftSeen start lines new
left_credits start lines old new only left = subst (λ (x : FilesState). HasLeftSeen start lines x) (sym only) left

-- A call was served, its line was told, and the recorder knows it.
pub record WasMade (word : TableId) (callers held : ℕ) (trace : List TraceLine) (first new : FilesState) (line : TraceLine) (told : Reply) (recorder : RecorderState) : Type 0 where
  pub served : WasServed callers held first new line.caller line.now line.op line.reply
  pub moment : IsMoment line.now
  pub call : IsCall line.op
  pub states : AreStates first new
  pub number : line.number ≡ lines_of line.caller trace + 1
  pub says : IsToldAs line.reply told
  pub of_word : recorder.word ≡ word
  pub seen : recorder.known.seen ≡ trace ++ (record line { reply = told }) ∷ []

pub traced_on : (word : TableId) (start : Start) (held : ℕ) (first last : FilesState) (line : TraceLine) (told : Reply) (before after : Outlook) (recorder new : RecorderState) (trace : List TraceLine) → AreLaws → IsTraced word start first before recorder trace
    → WasMade word start.callers held trace first last line told new → SureGoes before after first.backing last.backing → IsTraced word start last after new (trace ++ (record line { reply = told }) ∷ [])
traced_on word start held first last line told before after recorder new trace laws h made sure =
    let w = made.served in
    let s : Stepped = record { old = w.between; new = last; line = line; grant = w.grant; left = w.left } in
    let paid = w.covered in
    let main : w.between.backing.space.main ≡ first.backing.space.main = ap (λ (x : FilesState). x.backing.space.main) w.only in
    let geo : w.between.backing.geometry ≡ first.backing.geometry = ap (λ (x : FilesState). x.backing.geometry) w.only in
    let call : IsMadeCall (opening_at start) s = record {
      step = w.step;
      moment = made.moment;
      call = made.call;
      ready = ready_credits first w.between made.states.ready w.only (omega (arith, paid));
      after = made.states.after;
      used = made.states.used;
      main = main_same first last made.states (w.step.goes.geometry ∙ geo) ∙ sym main;
      paid = w.most;
      few = w.drained;
    } in
    let history = history_credits (opening_at start) start.files.refused trace first w.between w.only h.history in
    let now = call_goes_on (opening_at start) start.files.refused trace s told laws call history made.number made.says in
    let journal : IsJournalTold w.between = subst (λ (x : FilesState). IsJournalTold x) (sym w.only) made.states.journal in
    record {
      of_word = made.of_word;
      seen = made.seen;
      history = now;
      sure = sure_on start first.backing last.backing before after h.sure sure;
      left = λ writes. call_leaves (opening_at start) start.files.refused start.files.backing.journal trace s told laws call journal made.states.journal_after made.says writes history now (left_credits start trace first w.between w.only h.left writes);
    }

-- an event of the background goes on with the lines
pub traced_beside : (word : TableId) (start : Start) (old new : FilesState) (event : Event) (outcome : Outcome) (before after : Outlook) (recorder : RecorderState) (trace : List TraceLine) → AreLaws → IsTraced word start old before recorder trace → IsBackgroundStep old new event outcome
    → SureGoes before after old.backing new.backing → AreStates old new → IsTraced word start new after recorder trace
traced_beside word start old new event outcome before after recorder trace laws h step sure states = record {
  of_word = h.of_word;
  seen = h.seen;
  history = background_goes_on (opening_at start) start.files.refused trace old new event outcome step (main_same old new states step.goes.geometry) h.history;
  sure = sure_on start old.backing new.backing before after h.sure sure;
  left = λ writes. background_leaves (opening_at start) start.files.refused start.files.backing.journal trace old new event outcome laws step states.journal states.ready.sound h.history (h.left writes);
}

between : (old new : FilesState) (event : Event) (outcome : Outcome) → is_work_between event ≡ true → IsStep old new event outcome → IsBackgroundStep old new event outcome
between old new (Call caller now grant op) outcome kind h = absurd (false≢true kind)
between old new event outcome kind h = h

pub traced_between : (word : TableId) (start : Start) (old new : FilesState) (event : Event) (outcome : Outcome) (before after : Outlook) (recorder : RecorderState) (trace : List TraceLine) → AreLaws → IsTraced word start old before recorder trace → is_work_between event ≡ true
    → IsStep old new event outcome → SureGoes before after old.backing new.backing → AreStates old new → IsTraced word start new after recorder trace
traced_between word start old new event outcome before after recorder trace laws h kind stepped sure states =
    traced_beside word start old new event outcome before after recorder trace laws h (between old new event outcome kind stepped) sure states

-- files with no line yet
pub traced_first : (word : TableId) (start : Start) (now : FilesState) (outlook : Outlook) (recorder : RecorderState) → now ≡ start.files → IsSound (present_in now) → (start.outlook.sure → outlook.sure)
    → (recorder.word ≡ word) × (recorder.known.seen ≡ []) → IsTraced word start now outlook recorder []
traced_first word start now outlook recorder is sound sure made = record {
  of_word = made.0;
  seen = made.1;
  history = subst (λ (x : FilesState). IsHistoryFrom start [] x) (sym is) (history_opens start.files start.outlook start.callers (subst (λ (x : FilesState). IsSound (present_in x)) is sound));
  sure = λ first. inr (sure first, ap (λ (x : FilesState). x.backing.faults) is);
  left = subst (λ (x : FilesState). HasLeftSeen start [] x) (sym is) (λ writes. opened_leaves (present_in start.files) start.files.backing.journal);
}
