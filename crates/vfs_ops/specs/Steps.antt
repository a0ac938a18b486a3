-- What a step of the file system answers and leaves, over any backing.
use Rattle.std.specs.Prelude.{◌≡◌, ◌≢◌, ◌⊎◌, ℕ, ◌-◌, ◌≤◌, Bool, true, false, if◌then◌else◌, Option, Some, None, IsSome, Result, Ok, Err, List, [], ◌∷◌, ◌++◌, length}
use Rattle.fs_model.specs.declared.backing_answers.Mode.TheVariants.{ReadWrite, ReadOnly}
use Rattle.fs_model.specs.declared.op.Op.{Op}
use Rattle.fs_model.specs.declared.op.Op.TheVariants.{OpenFile, Close, Read, Write, Fsync, Flush, List as ListDir, Stat, Readlink}
use Rattle.fs_model.specs.declared.refusal.Cause.{Cause}
use Rattle.fs_model.specs.declared.refusal.NoSpace.{NoSpace}
use Rattle.fs_model.specs.declared.refusal.Refusal.{Refusal}
use Rattle.fs_model.specs.declared.refusal.Refusal.TheVariants.{Enospc, Erofs}
use Rattle.fs_model.specs.declared.reply.Reply.{Reply}
use Rattle.fs_model.specs.declared.reply.Reply.TheVariants.{Refused}
use Rattle.fs_model.specs.declared.space.Need.{Need}
use Rattle.fs_model.specs.Backing.{BackingState, Goes, orphan_room}
use Rattle.fs_model.specs.Files.{Files, handle_at}
use Rattle.fs_model.specs.Need.{need_of}
pub use Rattle.fs_model.specs.Legal.{is_read, is_sync, is_tight, read_only_cause}
use Rattle.fs_model.specs.Operation.{group_of, outcome_of}
use Rattle.fs_model.specs.Orphan.{within_orphans}
use Rattle.fs_model.specs.Outcome.{Outcome}
use Rattle.fs_laws.specs.Sound.{IsSound}
use Rattle.buffered_files.specs.declared.kept.Kept.{Kept}
use Rattle.buffered_files.specs.Alike.{IsAlike}
use Rattle.buffered_files.specs.Calls.{IsNotEnospc, IsWithoutRoom}
use Rattle.buffered_files.specs.Present.{present, IsKept}
use Rattle.vfs_plans.specs.Answers.{IsFault}
use Rattle.vfs_ops.specs.Kinds.{IsStopped, OnlyLooks, is_late, is_question}
use Rattle.vfs_ops.specs.Operations.{has_group, is_of_names, nodes_asked}
use Rattle.vfs_ops.specs.Writing.{HasRoomAtOnce, IsGroupAdmitted, WasPaid, newly_by, write_need}

-- What is kept fits the backing, each dirty page is paid, and the present files are sound.
pub record IsReady (state : BackingState) (kept : Kept) : Type 0 where
  pub kept_fits : IsKept state.tree kept
  pub paid : length kept.pages.dirty ≤ state.space.credits
  pub sound : IsSound (present state.tree kept)

-- whether it writes to a file
abbrev pub is_write : Op → Bool
is_write (Write slot offs len byte) = true
is_write op = false

-- the plain operation; one of names where so many more orphans can be told of, out of this limit
abbrev pub allowed : ℕ → ℕ → Files → ℕ → ℕ → Op → Outcome
allowed room limit files caller now op =
    if is_of_names op then within_orphans room limit files (outcome_of files caller now op) else outcome_of files caller now op

-- the plain operation over this backing
abbrev pub allowed_on : BackingState → Files → ℕ → ℕ → Op → Outcome
allowed_on state files caller now op = allowed (orphan_room state) state.orphan_limit files caller now op

-- what an operation asks for at the second test, where all pages are put; a write brings its grant
abbrev pub asked : Files → ℕ → ℕ → ℕ → Op → Need
asked files caller now grant (Write slot offs len byte) = write_need offs len grant
asked files caller now grant op = need_of files caller now op

-- why a sync isn't done: a fault, or that the backing is read-only from now on
abbrev pub IsUnsynced : BackingState → BackingState → Refusal → Type 0
IsUnsynced old new (Erofs cause) = (old.mode ≡ ReadWrite) × (new.mode ≡ ReadOnly cause)
IsUnsynced old new refusal = IsStopped old new refusal

-- Why an operation that nothing else refuses isn't done: want of room for what it asks for, or a fault. What asks for no room isn't refused so.
abbrev pub IsTurnedDown : BackingState → BackingState → Kept → Need → Op → Refusal → Type 0
IsTurnedDown old new kept need (OpenFile path slot) refusal = IsFault old new refusal
IsTurnedDown old new kept need (Close slot) refusal = IsFault old new refusal
IsTurnedDown old new kept need (Read slot offs len) refusal = IsFault old new refusal
IsTurnedDown old new kept need (ListDir path) refusal = IsFault old new refusal
IsTurnedDown old new kept need (Stat path) refusal = IsFault old new refusal
IsTurnedDown old new kept need (Readlink path) refusal = IsFault old new refusal
IsTurnedDown old new kept need (Fsync slot) refusal = IsUnsynced old new refusal
IsTurnedDown old new kept need Flush refusal = IsUnsynced old new refusal
IsTurnedDown old new kept need op refusal = IsWithoutRoom old new kept need refusal

-- done as the plain operation says, but for zeros at the ends of blocks, which nobody sees
abbrev pub IsDone : Outcome → Files → Reply → Type 0
IsDone plain present_files reply = (after : Files) × (plain ≡ Ok (reply, after)) × IsAlike after present_files

-- want of room comes only where nothing else refuses
abbrev pub IsLast : Outcome → Refusal → Type 0
IsLast plain (Enospc space) = (done : Reply × Files) × (plain ≡ Ok done)
IsLast plain refusal = Unit {0}

-- Why an operation is refused: as the plain one is, or for what that one knows nothing of; a read-only store refuses before all else.
abbrev pub IsRefusedFor : Option Cause → BackingState → BackingState → Kept → Files → ℕ → ℕ → ℕ → Op → Refusal → Type 0
IsRefusedFor (Some cause) old new kept files caller now grant op refusal = refusal ≡ Erofs cause
IsRefusedFor None old new kept files caller now grant op refusal =
    (allowed_on old files caller now op ≡ Err refusal)
    ⊎ (IsTurnedDown old new kept (asked files caller now grant op) op refusal × IsLast (allowed_on old files caller now op) refusal)

-- refused, for a reason, and callers see the files as before
pub record IsRefusal (old new : BackingState) (kept : Kept) (files : Files) (caller now grant : ℕ) (op : Op) (reply : Reply) : Type 0 where
  pub refusal : Refusal
  pub told : reply ≡ Refused refusal
  pub why : IsRefusedFor (read_only_cause old.mode op) old new kept files caller now grant op refusal
  pub same : IsAlike files (present new.tree kept)

-- What an operation asks for that is done was admitted: the credits that a write lacks, or the group of one that has a group. No other asks for anything.
abbrev pub WasAdmitted : BackingState → BackingState → Kept → ℕ → ℕ → ℕ → Op → Type 0
WasAdmitted old new before caller now grant (Write slot offs len byte) =
    (ino : ℕ) → handle_at (present old.tree before) caller slot ≡ Some ino → WasPaid old new before ino offs len grant
WasAdmitted old new before caller now grant op =
    has_group op ≡ true → IsGroupAdmitted old new before (group_of (present old.tree before) caller now op) (need_of (present old.tree before) caller now op)

-- the same of a reply
abbrev pub IsAdmittedReply : BackingState → BackingState → Kept → ℕ → ℕ → ℕ → Op → Reply → Type 0
IsAdmittedReply old new before caller now grant op reply = ((refusal : Refusal) × (reply ≡ Refused refusal)) ⊎ WasAdmitted old new before caller now grant op

-- Where the plain operation is done, and its group is empty or has room at the first test, it isn't refused for want of room. No more nodes are put than the group's.
abbrev pub IsAtOnce : {T : Type 0} → BackingState → BackingState → Kept → ℕ → ℕ → Op → Result T Refusal → Type 0
IsAtOnce old new before caller now op result =
    has_group op ≡ true → (done : Reply × Files) → outcome_of (present old.tree before) caller now op ≡ Ok done → HasRoomAtOnce old (need_of (present old.tree before) caller now op)
    → IsNotEnospc result × Goes (nodes_asked (present old.tree before) caller now op) old new

-- the same of its reply
abbrev pub IsAtOnceReply : BackingState → BackingState → Kept → ℕ → ℕ → Op → List NoSpace → List NoSpace → Type 0
IsAtOnceReply old new before caller now op first last =
    has_group op ≡ true → (done : Reply × Files) → outcome_of (present old.tree before) caller now op ≡ Ok done → HasRoomAtOnce old (need_of (present old.tree before) caller now op)
    → (last ≡ first) × Goes (nodes_asked (present old.tree before) caller now op) old new

-- the sides of a reply that there is no room
abbrev pub no_space_in : Reply → List NoSpace
no_space_in (Refused (Enospc space)) = space ∷ []
no_space_in reply = []

-- What a step answers to a caller's operation, what the files are then, and which refusals for want of room there were so far.
abbrev pub IsAnswered : BackingState → BackingState → Kept → Files → ℕ → ℕ → ℕ → Op → Reply → List NoSpace → List NoSpace → Type 0
IsAnswered old new kept files caller now grant op reply before after =
    ((read_only_cause old.mode op ≡ None) × IsDone (allowed_on old files caller now op) (present new.tree kept) reply × (after ≡ before))
    ⊎ (IsRefusal old new kept files caller now grant op reply × (after ≡ before ++ no_space_in reply))

-- the sides of an answer of a call that there is no room
abbrev pub no_space_from : {T : Type 0} → Result T Refusal → List NoSpace
no_space_from (Err (Enospc space)) = space ∷ []
no_space_from result = []

-- a backing and what is kept in front of it, before and after a step
pub record Passage : Type 0 where
  pub old : BackingState
  pub new : BackingState
  pub before : Kept
  pub after : Kept

-- a sync on a store that is read-only leaves all as it is
abbrev pub IsIdle : BackingState → BackingState → Kept → Kept → Op → Type 0
IsIdle old new before after op = is_sync op ≡ true → old.mode ≢ ReadWrite → (new ≡ old) × (after ≡ before)

-- Done as the plain operation is: what is left is the grant less the pages that became dirty, and a question only looked. A sync on a read-only store did nothing.
pub record WasDone (p : Passage) (caller now grant : ℕ) (op : Op) (reply : Reply) (left : ℕ) : Type 0 where
  pub done : IsDone (allowed_on p.old (present p.old.tree p.before) caller now op) (present p.new.tree p.after) reply
  pub given_back : left ≡ grant - newly_by p.before caller op
  pub looked : is_question op ≡ true → OnlyLooks p.old p.new p.before p.after
  pub idle : IsIdle p.old p.new p.before p.after op

-- Refused: the whole grant is left. A question only looked, and so did a refusal that comes before anything is put. If it is read-only, all is as it was.
pub record WasRefused (p : Passage) (grant : ℕ) (op : Op) (reply : Reply) (left : ℕ) : Type 0 where
  pub refusal : Refusal
  pub told : reply ≡ Refused refusal
  pub given_back : left ≡ grant
  pub looked : (is_question op ≡ true) ⊎ (is_late refusal ≡ false) → OnlyLooks p.old p.new p.before p.after
  pub closed : IsSome (read_only_cause p.old.mode op) → (p.new ≡ p.old) × (p.after ≡ p.before)

-- how much of its grant a step leaves, and which steps only look
abbrev pub IsExact : Passage → ℕ → ℕ → ℕ → Op → Reply → ℕ → Type 0
IsExact p caller now grant op reply left = WasDone p caller now grant op reply left ⊎ WasRefused p grant op reply left
