-- What a cut may leave behind the lines of many callers: at each place a value that they saw since the last sync of it that was done.
use Rattle.std.specs.Prelude.{◌≡◌, ◌⊎◌, ℕ, ◌==◌, ◌&&◌, ◌||◌, Bool, true, false, not, Option, Some, None, List, [], ◌∷◌, ◌++◌}
use Rattle.std.specs.Option.{option_map_or}
use Rattle.fs_model.specs.declared.backing_answers.Mode.TheVariants.{ReadWrite}
use Rattle.fs_model.specs.declared.op.Op.{Op}
use Rattle.fs_model.specs.declared.op.Op.TheVariants.{Flush, Fsync}
use Rattle.fs_model.specs.declared.refusal.Refusal.TheVariants.{Eio}
use Rattle.fs_model.specs.declared.reply.Reply.{Reply}
use Rattle.fs_model.specs.declared.reply.Reply.TheVariants.{Done, Refused}
use Rattle.fs_model.specs.declared.trace.TraceLine.{TraceLine}
use Rattle.fs_model.specs.Files.{Files, Tree, block_at, handle_at, inode_at}
use Rattle.fs_model.specs.Journal.{Journal, MayLeave}
use Rattle.fs_model.specs.Operation.{files_in, outcome_of}
use Rattle.fs_model.specs.Path.{is_file}
use Rattle.buffered_files.specs.Cuts.{TreePlace, Value, Values, ValuesOf, value_at}
use Rattle.buffered_files.specs.Cuts.TreePlace.{BlockAt, EntryAt, InodeAt}
use Rattle.vfs_ops.specs.FilesState.{FilesState, present_in}
use Rattle.traced_files.specs.History.{files_after_line, files_behind}
use Rattle.traced_files.specs.Start.{Start}

-- a file is stored as it is seen: its inode, and each of its blocks
pub record IsFileStored (stored seen : Tree) (ino : ℕ) : Type 0 where
  pub inode : inode_at stored ino ≡ inode_at seen ino
  pub blocks : (block : ℕ) → block_at stored.blocks ino block ≡ block_at seen.blocks ino block

-- whether this inode is a file's
abbrev pub is_file_at : Tree → ℕ → Bool
is_file_at tree ino = option_map_or (λ inode. is_file inode.kind) (inode_at tree ino) false

-- Whether what stands at a place lasts once this file is synced. The file's inode and blocks do. So do names, and inodes that aren't files': they don't wait for dirty pages.
abbrev pub lasts_with : Tree → Option ℕ → TreePlace → Bool
lasts_with tree None place = false
lasts_with tree (Some ino) (InodeAt other) = (other == ino) || not (is_file_at tree other)
lasts_with tree (Some ino) (BlockAt other block) = other == ino
lasts_with tree (Some ino) (EntryAt dir name) = true

-- whether what stands at a place lasts by this call on these files: it is a sync that was done, of all files or of the slot's
abbrev pub is_synced_by : Files → ℕ → Op → Reply → TreePlace → Bool
is_synced_by files caller Flush Done place = true
is_synced_by files caller (Fsync slot) Done place = lasts_with files.tree (handle_at files caller slot) place
is_synced_by files caller op reply place = false

-- whether none of these lines is a sync of this place that was done, from these files on
abbrev pub stays_unsynced : Files → List TraceLine → TreePlace → Bool
stays_unsynced files [] place = true
stays_unsynced files (line ∷ lines) place = not (is_synced_by files line.caller line.op line.reply place) && stays_unsynced (files_after_line files line) lines place

-- the answer is that the volume failed
abbrev pub IsFaulted : Reply → Type 0
IsFaulted (Refused (Eio count)) = Unit {0}
IsFaulted reply = ⊥

-- the values of these files and, if the volume failed in the line behind them, those of what its operation makes of them
abbrev pub ValuesBefore : Files → List TraceLine → Values
ValuesBefore files [] place value = ValuesOf files.tree place value
ValuesBefore files (line ∷ lines) place value =
    ValuesOf files.tree place value ⊎ (IsFaulted line.reply × ValuesOf (files_in files (outcome_of files line.caller line.now line.op)).tree place value)

-- Callers saw this value at this place behind the first of these lines. No sync of it that was done stands behind those.
pub record WasSeen (opening : Files) (lines : List TraceLine) (place : TreePlace) (value : Value) : Type 0 where
  pub first : List TraceLine
  pub rest : List TraceLine
  pub all : lines ≡ first ++ rest
  pub unsynced : stays_unsynced (files_behind opening first) rest place ≡ true
  pub seen : ValuesBefore (files_behind opening first) rest place value

-- Each value that a cut now leaves was seen. If no sync of its place was done, it may also be one that a cut might have left before the lines.
abbrev pub LeavesSeen : Files → Journal → List TraceLine → Journal → Type 0
LeavesSeen opening before lines now =
    (left : Tree) (place : TreePlace) → MayLeave now left
    → WasSeen opening lines place (value_at left place) ⊎ ((stays_unsynced opening lines place ≡ true) × ((old : Tree) × MayLeave before old × (value_at left place ≡ value_at old place)))

-- the same of files that could be written when their lines began
abbrev pub HasLeftSeen : Start → List TraceLine → FilesState → Type 0
HasLeftSeen start lines now = start.files.backing.mode ≡ ReadWrite → LeavesSeen (present_in start.files) start.files.backing.journal lines now.backing.journal
