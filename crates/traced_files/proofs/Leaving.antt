-- Each value that a cut leaves was seen. It stays so behind a call, with a line more, and behind work between lines.
use Rattle.std.proofs.Common.{◌≡◌, ◌⊎◌, inl, inr, ℕ, Bool, true, false, ◌&&◌, List, [], ◌∷◌, ◌++◌, Ok, Err, Some, None, refl, sym, ap, subst, ◌∙◌, append_assoc}
use Rattle.std.specs.Prelude.{not}
use Rattle.std.specs.BTreeMap.{is_at}
use Rattle.std.specs.Map.{lookup}
use Rattle.std.proofs.lemmas.Bool.{and_from, and_parts, false≢true}
use Rattle.std.proofs.lemmas.List.{append-nil}
use Rattle.std.proofs.lemmas.List.Sums.{fold-append}
use Rattle.fs_model.specs.declared.backing_answers.Mode.{Mode}
use Rattle.fs_model.specs.declared.backing_answers.Mode.TheVariants.{ReadOnly, ReadWrite}
use Rattle.fs_model.specs.declared.op.Op.{Op}
use Rattle.fs_model.specs.declared.op.Op.TheVariants.{Close, Flush, Fsync, Write}
use Rattle.fs_model.specs.declared.refusal.NoSpace.{NoSpace}
use Rattle.fs_model.specs.declared.refusal.Refusal.{Refusal}
use Rattle.fs_model.specs.declared.refusal.Refusal.TheVariants.{Eio, Enomem}
use Rattle.fs_model.specs.declared.reply.Reply.{Reply}
use Rattle.fs_model.specs.declared.reply.Reply.TheVariants.{Done, Refused}
use Rattle.fs_model.specs.declared.trace.TraceLine.{TraceLine}
use Rattle.fs_model.specs.Backing.{orphan_room}
use Rattle.fs_model.specs.Change.{apply}
use Rattle.fs_model.specs.Effect.{GroupMakes}
use Rattle.fs_model.specs.Files.{Files, Handles, Tree, pair_cmp}
use Rattle.fs_model.specs.Journal.{IfTold, IsJournalOf, Journal, MayLeave}
use Rattle.fs_model.specs.Legal.{Opening, read_only_cause}
use Rattle.fs_model.specs.Operation.{Outcome, files_in, group_of, outcome_of}
use Rattle.fs_model.specs.Orphan.{without_nameless}
use Rattle.fs_model.specs.Proper.{IsInOrder}
use Rattle.fs_laws.specs.Sound.{IsCall, IsMoment, IsSound}
use Rattle.buffered_files.specs.Alike.{IsAlike}
use Rattle.buffered_files.specs.CutLaws.{AreAmong, Puts-with}
use Rattle.buffered_files.specs.Cuts.{HasValues, TreePlace, Value, Values, ValuesOf, ValuesWith, value_at}
use Rattle.buffered_files.specs.Cuts.GroupFate.{NotPut}
use Rattle.buffered_files.proofs.Applied.{agrees_of}
use Rattle.buffered_files.proofs.PlaceValues.{alike_among}
use Rattle.vfs_ops.specs.declared.event.Event.{Event}
use Rattle.vfs_ops.specs.declared.event.Event.TheVariants.{Call}
use Rattle.vfs_ops.specs.declared.event.Outcome.{Outcome as EventOutcome}
use Rattle.vfs_ops.specs.declared.event.Outcome.TheVariants.{Replied}
use Rattle.vfs_ops.specs.Background.{IsBackgroundStep}
use Rattle.vfs_ops.specs.Events.{HasSynced}
use Rattle.vfs_ops.specs.FilesState.{FilesState, present_in}
use Rattle.vfs_ops.specs.Kinds.{reply_fate}
use Rattle.vfs_ops.specs.Passing.{IsCallStep}
use Rattle.vfs_ops.specs.Replies.{IsAlikeOutcome, holds_bytes, is_refusal}
use Rattle.vfs_ops.specs.Steps.{IsAnswered, IsDone, IsReady, allowed_on}
use Rattle.vfs_ops.proofs.Cutting.{has_among}
use Rattle.vfs_ops.proofs.Serving.{alike_self}
use Rattle.traced_files.specs.History.{IsHistory, IsModeAfter, files_after_line, files_behind}
use Rattle.traced_files.specs.Laws.{AreLaws}
use Rattle.traced_files.specs.Replies.{IsToldAs}
use Rattle.traced_files.specs.Seen.{IsFaulted, LeavesSeen, ValuesBefore, WasSeen, is_synced_by, lasts_with, stays_unsynced}
use Rattle.traced_files.proofs.Answering.{IsDoneAlike, alike_done, allowed_done}
use Rattle.traced_files.proofs.Going.{IsMadeCall, Stepped}
use Rattle.traced_files.proofs.Replaying.{behind_on, done_after, made_of, refused_after}
use Rattle.traced_files.proofs.Synced.{IsFsyncOf, file_left, fsync_leaves, lasts_alike, sync_is}

-- what a backing says of its journal
abbrev pub IsJournalTold : FilesState → Type 0
IsJournalTold state = IfTold state.backing.journal (IsJournalOf state.backing.tree)

-- behind more lines
unsynced_on : (files : Files) (lines more : List TraceLine) (place : TreePlace) → stays_unsynced files lines place ≡ true → stays_unsynced (files_behind files lines) more place ≡ true → stays_unsynced files (lines ++ more) place ≡ true
unsynced_on files [] more place none still = still
unsynced_on files (line ∷ lines) more place none still =
    let first : Bool = not (is_synced_by files line.caller line.op line.reply place) in
    let parts = and_parts first (stays_unsynced (files_after_line files line) lines place) none in
    and_from first (stays_unsynced (files_after_line files line) (lines ++ more) place) parts.0 (unsynced_on (files_after_line files line) lines more place parts.1 still)

unsynced_all : (opening : Files) (lines more all : List TraceLine) (place : TreePlace) → all ≡ lines ++ more → stays_unsynced opening lines place ≡ true → stays_unsynced (files_behind opening lines) more place ≡ true → stays_unsynced opening all place ≡ true
unsynced_all opening lines more all place are none still = ap (λ (xs : List TraceLine). stays_unsynced opening xs place) are ∙ unsynced_on opening lines more place none still

values_on : (files : Files) (lines more : List TraceLine) (place : TreePlace) (value : Value) → ValuesBefore files lines place value → ValuesBefore files (lines ++ more) place value
values_on files [] [] place value is = is
values_on files [] (line ∷ more) place value is = inl is
values_on files (line ∷ lines) more place value is = is

seen_on : (opening : Files) (lines more all : List TraceLine) (place : TreePlace) (value : Value) → all ≡ lines ++ more → stays_unsynced (files_behind opening lines) more place ≡ true → WasSeen opening lines place value → WasSeen opening all place value
seen_on opening lines more all place value are still seen = record {
  first = seen.first;
  rest = seen.rest ++ more;
  all = are ∙ ap (λ (xs : List TraceLine). xs ++ more) seen.all ∙ append_assoc seen.first seen.rest more;
  unsynced = unsynced_on (files_behind opening seen.first) seen.rest more place seen.unsynced
      (subst (λ (files : Files). stays_unsynced files more place ≡ true) (ap (files_behind opening) seen.all ∙ fold-append files_after_line opening seen.first seen.rest) still);
  seen = values_on (files_behind opening seen.first) seen.rest more place value seen.seen;
}

-- what was seen where no line more syncs a place
abbrev SeenIfUnsynced : Files → List TraceLine → List TraceLine → List TraceLine → Values
SeenIfUnsynced opening lines more all place value = stays_unsynced (files_behind opening lines) more place ≡ true → WasSeen opening all place value

-- a step leaves nothing else than what was seen and what a cut might have left before it
leaves_on : (opening : Files) (before old new : Journal) (lines more all : List TraceLine) → all ≡ lines ++ more → LeavesSeen opening before lines old → ((left : Tree) → MayLeave new left → HasValues old (SeenIfUnsynced opening lines more all) left)
    → (left : Tree) (place : TreePlace) → stays_unsynced (files_behind opening lines) more place ≡ true → MayLeave new left
    → WasSeen opening all place (value_at left place) ⊎ ((stays_unsynced opening all place ≡ true) × ((first : Tree) × MayLeave before first × (value_at left place ≡ value_at first place)))
leaves_on opening before old new lines more all are was step left place still may = by (step left may place)
  where
    carried : (tree : Tree) → value_at left place ≡ value_at tree place → WasSeen opening lines place (value_at tree place) ⊎ ((stays_unsynced opening lines place ≡ true) × ((first : Tree) × MayLeave before first × (value_at tree place ≡ value_at first place)))
        → WasSeen opening all place (value_at left place) ⊎ ((stays_unsynced opening all place ≡ true) × ((first : Tree) × MayLeave before first × (value_at left place ≡ value_at first place)))
    carried tree same (inl seen) = inl (subst (λ (value : Value). WasSeen opening all place value) (sym same) (seen_on opening lines more all place (value_at tree place) are still seen))
    carried tree same (inr (none, first)) = inr (unsynced_all opening lines more all place are none still, (first.0, first.1, same ∙ first.2))

    by : ((tree : Tree) × MayLeave old tree × (value_at left place ≡ value_at tree place)) ⊎ SeenIfUnsynced opening lines more all place (value_at left place)
        → WasSeen opening all place (value_at left place) ⊎ ((stays_unsynced opening all place ≡ true) × ((first : Tree) × MayLeave before first × (value_at left place ≡ value_at first place)))
    by (inl old_value) = carried old_value.0 old_value.2 (was old_value.0 place old_value.1)
    by (inr seen) = inl (seen still)

-- before a line comes, all that a cut leaves might have been left then
pub opened_leaves : (opening : Files) (before : Journal) → LeavesSeen opening before [] before
opened_leaves opening before left place may = inr (refl, (left, may, refl))

in_order : (files : Files) → IsSound files → IsInOrder files.tree
in_order files sound = record { inodes = sound.proper.inodes_ascend; blocks = sound.proper.blocks_ascend; entries = sound.proper.entries_ascend }

-- files that callers can't tell apart have the same values
pub alike_values : (a b : Files) → IsAlike a b → IsSound a → IsSound b → AreAmong (ValuesOf b.tree) (ValuesOf a.tree)
alike_values a b same sound there = alike_among a b (agrees_of a b same) (in_order a sound) (in_order b there)

-- the values of either
abbrev EitherOf : Files → Files → Values
EitherOf a b place value = ValuesOf a.tree place value ⊎ ValuesOf b.tree place value

-- What the group of an operation gives is there before it, or in what the operation makes of the files.
made_values : (files : Files) (caller now : ℕ) (op : Op) → GroupMakes files caller now op → AreAmong (ValuesWith files.tree (group_of files caller now op)) (EitherOf files (files_in files (outcome_of files caller now op)))
made_values files caller now op makes place value (inl is) = inl is
made_values files caller now op makes place value (inr is) = by op makes is
  where
    by : (op : Op) → GroupMakes files caller now op → ValuesOf (apply files.tree (group_of files caller now op)) place value → EitherOf files (files_in files (outcome_of files caller now op)) place value
    by (Write slot offs len byte) makes is = inl is
    by (Close slot) makes is = inl is
    by op makes is = inr (subst (λ (tree : Tree). ValuesOf tree place value) (sym (makes tt)) is)

left_alike : (a b : Files) (x y : Outcome) → IsAlike a b → IsAlikeOutcome x y → IsAlike (files_in a x) (files_in b y)
left_alike a b (Ok x) (Ok y) same h = h.1
left_alike a b (Ok x) (Err y) same h = absurd h
left_alike a b (Err x) (Ok y) same h = absurd h
left_alike a b (Err x) (Err y) same h = same

-- the same on files that callers can't tell from those
call_values : (files seen : Files) (caller now : ℕ) (op : Op) → AreLaws → IsSound files → IsSound seen → IsMoment now → IsCall op → IsAlike files seen
    → AreAmong (ValuesWith seen.tree (group_of seen caller now op)) (EitherOf files (files_in files (outcome_of files caller now op)))
call_values files seen caller now op laws sound there moment call same place value is = by (made_values seen caller now op (laws.cuts.makes seen caller now op) place value is)
  where
    made : Files → Files
    made x = files_in x (outcome_of x caller now op)

    by : EitherOf seen (made seen) place value → EitherOf files (made files) place value
    by (inl before) = inl (alike_values files seen same sound there place value before)
    by (inr after) =
        let alike = left_alike files seen (outcome_of files caller now op) (outcome_of seen caller now op) same (laws.answer files seen caller now op sound there.proper same) in
        inr (alike_values (made files) (made seen) alike (laws.sound files caller now op sound moment call).sound (laws.sound seen caller now op there moment call).sound place value after)

-- behind all lines
seen_last : (opening : Files) (lines : List TraceLine) (files : Files) → files ≡ files_behind opening lines → AreAmong (ValuesOf files.tree) (WasSeen opening lines)
seen_last opening lines files are place value is = record {
  first = lines;
  rest = [];
  all = sym (append-nil lines);
  unsynced = refl;
  seen = subst (λ (f : Files). ValuesOf f.tree place value) are is;
}

-- before the last line, where that syncs nothing
seen_before : (opening : Files) (lines : List TraceLine) (line : TraceLine) (files : Files) → files ≡ files_behind opening lines → AreAmong (ValuesOf files.tree) (SeenIfUnsynced opening lines (line ∷ []) (lines ++ line ∷ []))
seen_before opening lines line files are place value is still = record {
  first = lines;
  rest = line ∷ [];
  all = refl;
  unsynced = still;
  seen = inl (subst (λ (f : Files). ValuesOf f.tree place value) are is);
}

-- by the last line, which is done
seen_done : (opening : Files) (lines : List TraceLine) (line : TraceLine) (files : Files) → files ≡ files_behind opening lines → is_refusal line.reply ≡ false → AreAmong (ValuesOf (made_of files line).tree) (WasSeen opening (lines ++ line ∷ []))
seen_done opening lines line files are plain =
    seen_last opening (lines ++ line ∷ []) (made_of files line) (sym (done_after files line plain) ∙ ap (λ (f : Files). files_after_line f line) are ∙ sym (behind_on opening lines line))

-- by the last line, in which the volume failed
seen_failed : (opening : Files) (lines : List TraceLine) (line : TraceLine) (files : Files) → files ≡ files_behind opening lines → IsFaulted line.reply → AreAmong (ValuesOf (made_of files line).tree) (SeenIfUnsynced opening lines (line ∷ []) (lines ++ line ∷ []))
seen_failed opening lines line files are failed place value is still = record {
  first = lines;
  rest = line ∷ [];
  all = refl;
  unsynced = still;
  seen = inr (failed, subst (λ (f : Files). ValuesOf (made_of f line).tree place value) are is);
}

-- a store that syncs can be written, if it could be when it was opened
open_to : (opening : Opening) (mode : Mode) (faults : ℕ) → opening.mode ≡ ReadWrite → IsModeAfter opening mode faults → read_only_cause mode Flush ≡ None → mode ≡ ReadWrite
open_to opening mode faults first (inl same) closed = same ∙ first
open_to opening mode faults first (inr (was, inl lost)) closed = let e = sym (ap (λ (m : Mode). read_only_cause m Flush) lost.1) ∙ closed in absurd cc
open_to opening mode faults first (inr (was, inr spent)) closed = let e = sym (ap (λ (m : Mode). read_only_cause m Flush) spent.2) ∙ closed in absurd cc

-- an `fsync` is let through where a flush is
syncs_alike : (mode : Mode) (slot : ℕ) → read_only_cause mode (Fsync slot) ≡ None → read_only_cause mode Flush ≡ None
syncs_alike ReadWrite slot through = refl
syncs_alike (ReadOnly cause) slot through = through

-- What is known of a caller's step, its line aside. Where a flush is let through, the store can be written.
pub record IsCutCall (s : Stepped) : Type 0 where
  pub step : IsCallStep s.old s.new (Call s.line.caller s.line.now s.grant s.line.op) (Replied s.line.reply s.left)
  pub moment : IsMoment s.line.now
  pub call : IsCall s.line.op
  pub ready : IsReady s.old.backing s.old.kept
  pub after : IsReady s.new.backing s.new.kept
  pub journal : IsJournalTold s.old
  pub journal_after : IsJournalTold s.new
  pub writes : read_only_cause s.old.backing.mode Flush ≡ None → s.old.backing.mode ≡ ReadWrite

-- Lines lead to files that callers can't tell from the present ones.
pub record IsShown (opening : Files) (lines : List TraceLine) (now : FilesState) : Type 0 where
  pub files : Files
  pub replayed : files ≡ files_behind opening lines
  pub same : IsAlike files (present_in now)
  pub sound : IsSound files

-- so callers saw the values of the present files
shown_last : (opening : Files) (lines : List TraceLine) (now : FilesState) → IsShown opening lines now → IsSound (present_in now) → AreAmong (ValuesOf (present_in now).tree) (WasSeen opening lines)
shown_last opening lines now shown sound place value is = seen_last opening lines shown.files shown.replayed place value (alike_values shown.files (present_in now) shown.same shown.sound sound place value is)

-- what a call that is answered so is let through by
let_through : (s : Stepped) (op : Op) → s.line.op ≡ op → s.line.reply ≡ Done → IsAnswered s.old.backing s.new.backing s.new.kept (present_in s.old) s.line.caller s.line.now s.grant s.line.op s.line.reply s.old.refused s.new.refused → read_only_cause s.old.backing.mode op ≡ None
let_through s op called done (inl is) = subst (λ (op : Op). read_only_cause s.old.backing.mode op ≡ None) called is.0
let_through s op called done (inr refused) = let e : Done ≡ Refused refused.0.refusal = sym done ∙ refused.0.told in absurd cc

-- the step with its operation and its answer by name
step_as : (s : Stepped) (op : Op) → s.line.op ≡ op → s.line.reply ≡ Done → IsCallStep s.old s.new (Call s.line.caller s.line.now s.grant s.line.op) (Replied s.line.reply s.left) → IsCallStep s.old s.new (Call s.line.caller s.line.now s.grant op) (Replied Done s.left)
step_as s op called done step =
    subst (λ (reply : Reply). IsCallStep s.old s.new (Call s.line.caller s.line.now s.grant op) (Replied reply s.left)) done
    (subst (λ (op : Op). IsCallStep s.old s.new (Call s.line.caller s.line.now s.grant op) (Replied s.line.reply s.left)) called step)

-- behind a flush that was done a cut leaves what callers see
flush_leaves : (opening : Files) (all : List TraceLine) (s : Stepped) → AreLaws → IsCutCall s → s.line.op ≡ Flush → s.line.reply ≡ Done → IsShown opening all s.new → (left : Tree) (place : TreePlace) → MayLeave s.new.backing.journal left → WasSeen opening all place (value_at left place)
flush_leaves opening all s laws h flush done shown left place may =
    let alone : left ≡ without_nameless (present_in s.new).tree =
    laws.cuts.flushed s.old s.new s.line.caller s.line.now s.grant s.left left (h.writes (let_through s Flush flush done h.step.answered.0)) h.after.kept_fits h.journal_after (step_as s Flush flush done h.step) may in
    shown_last opening all s.new shown h.after.sound place (value_at left place) (inr (ap (λ (tree : Tree). value_at tree place) alone))

-- what a call that is done comes to
done_there : (s : Stepped) → (done : IsDone (allowed_on s.old.backing (present_in s.old) s.line.caller s.line.now s.line.op) (present_in s.new) s.line.reply) → outcome_of (present_in s.old) s.line.caller s.line.now s.line.op ≡ Ok (s.line.reply, done.0)
done_there s done = allowed_done (orphan_room s.old.backing) s.old.backing.orphan_limit (present_in s.old) s.line.caller s.line.now s.line.op (s.line.reply, done.0) done.1

-- an `fsync` that was done leaves the inodes
inodes_left : (s : Stepped) (slot : ℕ) → s.line.op ≡ Fsync slot → s.line.reply ≡ Done → IsAnswered s.old.backing s.new.backing s.new.kept (present_in s.old) s.line.caller s.line.now s.grant s.line.op s.line.reply s.old.refused s.new.refused → (present_in s.old).tree.inodes ≡ (present_in s.new).tree.inodes
inodes_left s slot called done (inl is) =
    let there = done_there s is.1 in
    let of_op = subst (λ (op : Op). outcome_of (present_in s.old) s.line.caller s.line.now op ≡ Ok (s.line.reply, is.1.0)) called there in
    sym (ap (λ (files : Files). files.tree.inodes) (fsync_leaves (present_in s.old) s.line.caller s.line.now slot s.line.reply is.1.0 of_op)) ∙ is.1.2.inodes
inodes_left s slot called done (inr refused) = let e : Done ≡ Refused refused.0.refusal = sym done ∙ refused.0.told in absurd cc

-- behind an `fsync` that was done it leaves what callers see of the file, of names, and of inodes that aren't files'
file_leaves : (opening : Files) (lines all : List TraceLine) (s : Stepped) (told : Reply) → AreLaws → IsCutCall s → IsShown opening lines s.old → IsShown opening all s.new → s.line.reply ≡ Done → (left : Tree) (place : TreePlace)
    → IsFsyncOf (files_behind opening lines) s.line.caller s.line.op told place → MayLeave s.new.backing.journal left → WasSeen opening all place (value_at left place)
file_leaves opening lines all s told laws h before shown done left place sync may =
    let op : Op = Fsync sync.slot in
    let step = step_as s op sync.called done h.step in
    let mode : s.old.backing.mode ≡ ReadWrite = h.writes (syncs_alike s.old.backing.mode sync.slot (let_through s op sync.called done h.step.answered.0)) in
    let synced = subst (λ (mode : Mode). HasSynced mode s.new.backing s.old.kept s.new.kept s.line.caller op Done) mode step.written in
    let handles : (files_behind opening lines).handles ≡ s.old.kept.handles = sym (ap (λ (files : Files). files.handles) before.replayed) ∙ before.same.handles in
    let held : lookup (is_at (pair_cmp (s.line.caller, sync.slot))) s.old.kept.handles ≡ Some sync.ino = subst (λ (handles : Handles). lookup (is_at (pair_cmp (s.line.caller, sync.slot))) handles ≡ Some sync.ino) handles sync.held in
    let inodes : (files_behind opening lines).tree.inodes ≡ (present_in s.new).tree.inodes =
    sym (ap (λ (files : Files). files.tree.inodes) before.replayed) ∙ before.same.inodes ∙ inodes_left s sync.slot sync.called done h.step.answered.0 in
    let lasts : lasts_with (present_in s.new).tree (Some sync.ino) place ≡ true = sym (lasts_alike (files_behind opening lines).tree (present_in s.new).tree sync.ino place inodes) ∙ sync.lasts in
    let alone : left ≡ without_nameless s.new.backing.tree = laws.cuts.synced s.new.backing h.journal_after synced.0 left may in
    shown_last opening all s.new shown h.after.sound place (value_at left place)
    (subst (λ (tree : Tree). ValuesOf (present_in s.new).tree place (value_at tree place)) (sym alone) (file_left s.new.backing.tree s.new.kept sync.ino place h.after.kept_fits h.after.sound.proper (synced.1 sync.ino held) lasts))

-- What a cut leaves of any call, where it syncs nothing, it might have left before, or it was seen before the line or by it.
line_values : (opening : Files) (lines : List TraceLine) (s : Stepped) (told : Reply) → AreLaws → IsCutCall s → IsToldAs s.line.reply told → IsShown opening lines s.old
    → (left : Tree) → MayLeave s.new.backing.journal left → HasValues s.old.backing.journal (SeenIfUnsynced opening lines ((record s.line { reply = told }) ∷ []) (lines ++ (record s.line { reply = told }) ∷ [])) left
line_values opening lines s told laws h says shown left may = by h.step.answered.0 says
  where
    caller : ℕ
    caller = s.line.caller

    now : ℕ
    now = s.line.now

    op : Op
    op = s.line.op

    reply : Reply
    reply = s.line.reply

    line : TraceLine
    line = record s.line { reply = told }

    files : Files
    files = shown.files

    Seen : Values
    Seen = SeenIfUnsynced opening lines (line ∷ []) (lines ++ line ∷ [])

    before : AreAmong (ValuesOf files.tree) Seen
    before = seen_before opening lines line files shown.replayed

    -- the group may have been put
    with_made : AreAmong (ValuesOf (made_of files line).tree) Seen → HasValues s.old.backing.journal Seen left
    with_made made =
        has_among {few = ValuesWith (present_in s.old).tree (group_of (present_in s.old) caller now op)} {all = Seen} s.old.backing.journal left (λ place value is. either place value (call_values files (present_in s.old) caller now op laws shown.sound h.ready.sound h.moment h.call shown.same place value is))
        (laws.cuts.event s.old s.new (Call caller now s.grant op) (Replied reply s.left) left (λ size. h.ready.sound) h.journal h.step may)
      where
        either : (place : TreePlace) (value : Value) → EitherOf files (made_of files line) place value → Seen place value
        either place value (inl is) = before place value is
        either place value (inr is) = made place value is

    -- it wasn't
    without : reply_fate reply ≡ NotPut → HasValues s.old.backing.journal Seen left
    without none =
        has_among {few = ValuesOf (present_in s.old).tree} {all = Seen} s.old.backing.journal left (λ place value is. before place value (alike_values files (present_in s.old) shown.same shown.sound h.ready.sound place value is))
        (laws.cuts.refused s.old s.new (Call caller now s.grant op) (Replied reply s.left) left h.journal h.step none may)

    -- an answer with bytes leaves the files
    left_by : holds_bytes reply ≡ true → (seen : Files) → outcome_of (present_in s.old) caller now op ≡ Ok (reply, seen) → made_of files line ≡ files
    left_by bytes seen done =
        let alike = laws.answer files (present_in s.old) caller now op shown.sound h.ready.sound.proper shown.same in
        let here : IsDoneAlike (outcome_of files caller now op) reply seen = alike_done (outcome_of files caller now op) (outcome_of (present_in s.old) caller now op) reply seen alike done in
        ap (files_in files) here.done ∙ laws.bytes files caller now op reply here.after shown.sound here.done bytes

    refused_by : (refusal : Refusal) → reply ≡ Refused refusal → told ≡ reply → HasValues s.old.backing.journal Seen left
    refused_by (Eio count) is same = with_made (seen_failed opening lines line files shown.replayed (subst IsFaulted (sym (same ∙ is)) tt))
    refused_by refusal is same = without (ap reply_fate is)

    by : IsAnswered s.old.backing s.new.backing s.new.kept (present_in s.old) caller now s.grant op reply s.old.refused s.new.refused → IsToldAs reply told → HasValues s.old.backing.journal Seen left
    by (inl done) (inl same) =
        let plain : is_refusal reply ≡ false = laws.told (present_in s.old) caller now op reply done.1.0 h.ready.sound (done_there s done.1) in
        with_made (λ place value is still. seen_done opening lines line files shown.replayed (ap is_refusal same ∙ plain) place value is)
    by (inl done) (inr short) = with_made (λ place value is. before place value (subst (λ (f : Files). ValuesOf f.tree place value) (left_by short.0 done.1.0 (done_there s done.1)) is))
    by (inr refused) (inl same) = refused_by refused.0.refusal refused.0.told same
    by (inr refused) (inr short) = absurd (false≢true (sym (ap holds_bytes refused.0.told) ∙ short.0))

-- A call, with a line more: what is told of its answer.
step_leaves : (opening : Files) (before : Journal) (lines : List TraceLine) (s : Stepped) (told : Reply) → AreLaws → IsCutCall s → IsToldAs s.line.reply told → IsShown opening lines s.old → IsShown opening (lines ++ (record s.line { reply = told }) ∷ []) s.new
    → LeavesSeen opening before lines s.old.backing.journal → LeavesSeen opening before (lines ++ (record s.line { reply = told }) ∷ []) s.new.backing.journal
step_leaves opening before lines s told laws h says shown now was left place may = by (is_synced_by (files_behind opening lines) s.line.caller s.line.op told place) refl
  where
    line : TraceLine
    line = record s.line { reply = told }

    all : List TraceLine
    all = lines ++ line ∷ []

    answered : IsToldAs s.line.reply told → told ≡ Done → s.line.reply ≡ Done
    answered (inl same) done = sym same ∙ done
    answered (inr short) done = let e : Done ≡ Refused Enomem = sym done ∙ short.1 in absurd cc

    synced : ((s.line.op ≡ Flush) × (told ≡ Done)) ⊎ IsFsyncOf (files_behind opening lines) s.line.caller s.line.op told place → WasSeen opening all place (value_at left place)
    synced (inl flush) = flush_leaves opening all s laws h flush.0 (answered says flush.1) now left place may
    synced (inr sync) = file_leaves opening lines all s told laws h shown now (answered says sync.done) left place sync may

    by : (b : Bool) → is_synced_by (files_behind opening lines) s.line.caller s.line.op told place ≡ b
        → WasSeen opening all place (value_at left place) ⊎ ((stays_unsynced opening all place ≡ true) × ((first : Tree) × MayLeave before first × (value_at left place ≡ value_at first place)))
    by true sync = inl (synced (sync_is (files_behind opening lines) s.line.caller s.line.op told place sync))
    by false other =
        let still : stays_unsynced (files_behind opening lines) (line ∷ []) place ≡ true = ap (λ (b : Bool). not b && true) other in
        leaves_on opening before s.old.backing.journal s.new.backing.journal lines (line ∷ []) all refl was (line_values opening lines s told laws h says shown) left place still may

-- the first line of files that callers see
pub first_leaves : (s : Stepped) → AreLaws → IsCutCall s → LeavesSeen (present_in s.old) s.old.backing.journal (s.line ∷ []) s.new.backing.journal
first_leaves s laws h =
    step_leaves (present_in s.old) s.old.backing.journal [] s s.line.reply laws h (inl refl) (record { files = present_in s.old; replayed = refl; same = alike_self (present_in s.old); sound = h.ready.sound }) (by h.step.answered.0)
    (opened_leaves (present_in s.old) s.old.backing.journal)
  where
    by : IsAnswered s.old.backing s.new.backing s.new.kept (present_in s.old) s.line.caller s.line.now s.grant s.line.op s.line.reply s.old.refused s.new.refused → IsShown (present_in s.old) (s.line ∷ []) s.new
    by (inl done) =
        let there = done_there s done.1 in
        let plain : is_refusal s.line.reply ≡ false = laws.told (present_in s.old) s.line.caller s.line.now s.line.op s.line.reply done.1.0 h.ready.sound there in
        record {
          files = done.1.0;
          replayed = sym (done_after (present_in s.old) s.line plain ∙ ap (files_in (present_in s.old)) there);
          same = done.1.2;
          sound = subst (λ (o : Outcome). IsSound (files_in (present_in s.old) o)) there (laws.sound (present_in s.old) s.line.caller s.line.now s.line.op h.ready.sound h.moment h.call).sound;
        }
    by (inr refused) = record {
      files = present_in s.old;
      replayed = sym (refused_after (present_in s.old) s.line refused.0.refusal refused.0.told);
      same = refused.0.same;
      sound = h.ready.sound;
    }

shown_by : (opening : Opening) (noted : List NoSpace) (lines : List TraceLine) (now : FilesState) → IsHistory opening noted lines now → IsShown opening.files lines now
shown_by opening noted lines now history = record { files = history.last.files; replayed = history.replayed; same = history.same; sound = history.sound }

-- a call goes on with a history
pub call_leaves : (opening : Opening) (noted : List NoSpace) (before : Journal) (lines : List TraceLine) (s : Stepped) (told : Reply) → AreLaws → IsMadeCall opening s → IsJournalTold s.old → IsJournalTold s.new → IsToldAs s.line.reply told → opening.mode ≡ ReadWrite
    → IsHistory opening noted lines s.old → IsHistory opening noted (lines ++ (record s.line { reply = told }) ∷ []) s.new → LeavesSeen opening.files before lines s.old.backing.journal
    → LeavesSeen opening.files before (lines ++ (record s.line { reply = told }) ∷ []) s.new.backing.journal
call_leaves opening noted before lines s told laws h journal later says first history now was =
    step_leaves opening.files before lines s told laws (record {
      step = h.step;
      moment = h.moment;
      call = h.call;
      ready = h.ready;
      after = h.after;
      journal = journal;
      journal_after = later;
      writes = open_to opening s.old.backing.mode s.old.backing.faults first history.mode;
    }) says (shown_by opening noted lines s.old history) (shown_by opening noted (lines ++ (record s.line { reply = told }) ∷ []) s.new now) was

-- work between lines
pub background_leaves : (opening : Opening) (noted : List NoSpace) (before : Journal) (lines : List TraceLine) (old new : FilesState) (event : Event) (outcome : EventOutcome) → AreLaws → IsBackgroundStep old new event outcome → IsJournalTold old → IsSound (present_in old) → IsHistory opening noted lines old
    → LeavesSeen opening.files before lines old.backing.journal → LeavesSeen opening.files before lines new.backing.journal
background_leaves opening noted before lines old new event outcome laws h journal sound history was =
    λ left place may. leaves_on opening.files before old.backing.journal new.backing.journal lines [] lines (sym (append-nil lines)) was (λ left may.
    has_among {few = ValuesOf (present_in old).tree} {all = SeenIfUnsynced opening.files lines [] lines} old.backing.journal left (λ place value is still. shown_last opening.files lines old (shown_by opening noted lines old history) sound place value is)
    (laws.cuts.pages old.backing.journal new.backing.journal old.backing.tree left (present_in old).tree [] journal (Puts-with (present_in old).tree [] NotPut old.backing.journal new.backing.journal refl h.cut) may)) left place refl may
