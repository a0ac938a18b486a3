-- Which operations and refusals only look, and why one that writes back isn't done.
use Rattle.std.specs.Prelude.{◌≡◌, ◌≢◌, ◌⊎◌, ◌+◌, ◌≤◌, ℕ, if◌then◌else◌, Bool, true, false, Some, Result, Ok, Err}
use Rattle.std.specs.BTreeMap.{is_at}
use Rattle.std.specs.Map.{lookup}
use Rattle.fs_model.specs.declared.backing_answers.Mode.TheVariants.{ReadWrite, ReadOnly}
use Rattle.fs_model.specs.declared.op.Op.{Op}
use Rattle.fs_model.specs.declared.op.Op.TheVariants.{OpenFile, Fsync, Read, List as ListDir, Stat, Readlink}
use Rattle.fs_model.specs.declared.refusal.Refusal.{Refusal}
use Rattle.fs_model.specs.declared.refusal.Refusal.TheVariants.{Enospc, Eio, Erofs, Enomem}
use Rattle.fs_model.specs.Backing.{BackingState, Reads, Rose, next_orphans}
use Rattle.fs_model.specs.declared.reply.Reply.{Reply}
use Rattle.fs_model.specs.declared.reply.Reply.TheVariants.{Refused}
use Rattle.fs_model.specs.Files.{Files, pair_cmp}
use Rattle.fs_model.specs.Orphan.{leaves_orphan}
use Rattle.buffered_files.specs.declared.kept.Kept.{Kept}
use Rattle.buffered_files.specs.Cuts.{GroupFate, refused_fate}
use Rattle.buffered_files.specs.Cuts.GroupFate.{WasPut}
use Rattle.buffered_files.specs.Present.{dirty_of_others}

-- whether it only looks at the files
abbrev pub is_look : Op → Bool
is_look (Read slot offs len) = true
is_look (ListDir path) = true
is_look (Stat path) = true
is_look (Readlink path) = true
is_look op = false

-- a fault of the backing, which is read-only then, or that it is read-only now
abbrev pub IsStopped : BackingState → BackingState → Refusal → Type 0
IsStopped old new (Eio count) = Rose old.faults new.faults × (count ≡ new.faults) × (new.mode ≢ ReadWrite)
IsStopped old new (Erofs cause) = new.mode ≡ ReadOnly cause
IsStopped old new Enomem = Unit {0}
IsStopped old new refusal = ⊥

-- whether it is a question about the files, or opens one
abbrev pub is_question : Op → Bool
is_question (OpenFile path slot) = true
is_question op = is_look op

-- Only looked at: the backing is as it was, but for a volume that failed; and so is what is kept, but for clean pages and open files.
pub record OnlyLooks (old new : BackingState) (before after : Kept) : Type 0 where
  pub reads : Reads old new
  pub kept : after ≡ record before { pages = record before.pages { clean = after.pages.clean }; handles = after.handles }

-- A sync of one file leaves the dirty pages of the others.
abbrev pub KeepsOthers : Kept → Kept → ℕ → Op → Type 0
KeepsOthers before after caller (Fsync slot) = (ino : ℕ) → lookup (is_at (pair_cmp (caller, slot))) before.handles ≡ Some ino → dirty_of_others after.pages.dirty ino ≡ dirty_of_others before.pages.dirty ino
KeepsOthers before after caller op = Unit {0}

-- whether a refusal may come once pages were put: want of room, a read-only store, a fault, or want of memory
abbrev pub is_late : Refusal → Bool
is_late (Enospc space) = true
is_late (Erofs cause) = true
is_late (Eio count) = true
is_late Enomem = true
is_late refusal = false

-- the answer is another refusal, which comes before anything is put
abbrev pub IsEarly : {T : Type 0} → Result T Refusal → Type 0
IsEarly (Err refusal) = is_late refusal ≡ false
IsEarly (Ok x) = ⊥

-- a question, or an early refusal
abbrev pub IsLookOnly : {T : Type 0} → Op → Result T Refusal → Type 0
IsLookOnly op result = (is_question op ≡ true) ⊎ IsEarly result

-- how many nodes a call adds at most, dirty pages included: if it is done, and if the volume failed; another refusal adds none
abbrev pub added_by : ℕ → ℕ → Reply → ℕ
added_by done failed (Refused (Eio count)) = failed
added_by done failed (Refused refusal) = 0
added_by done failed reply = done

-- what a reply tells of the group that was to be put
abbrev pub reply_fate : Reply → GroupFate
reply_fate (Refused refusal) = refused_fate refusal
reply_fate reply = WasPut

-- the next list of orphans gets longer by one at most, and only where an open inode lost its last name
abbrev pub KeepsOrphans : BackingState → BackingState → Files → Files → Type 0
KeepsOrphans old new before after = next_orphans new ≤ next_orphans old + (if leaves_orphan before after then 1 else 0)

-- the next list of orphans gets no longer, or it has room
abbrev pub FitsNextOrphans : BackingState → BackingState → Type 0
FitsNextOrphans old new = (next_orphans new ≤ next_orphans old) ⊎ (next_orphans new ≤ old.orphan_limit)
