-- Laws of operations and steps, as functions of the layers below state them.
use Rattle.std.specs.Prelude.{◌≡◌, ℕ, ◌+◌, ◌*◌, ◌≤◌, false, true, Ok, Err, List, []}
use Rattle.fs_model.specs.declared.backing_answers.Mode.TheVariants.{ReadWrite}
use Rattle.fs_model.specs.declared.change.Change.{Change}
use Rattle.fs_model.specs.declared.op.Op.{Op}
use Rattle.fs_model.specs.declared.op.Op.TheVariants.{Flush}
use Rattle.fs_model.specs.declared.refusal.Refusal.{Refusal}
use Rattle.fs_model.specs.declared.reply.Reply.{Reply}
use Rattle.fs_model.specs.declared.reply.Reply.TheVariants.{Done}
use Rattle.fs_model.specs.Backing.{BackingState, IsSynced, LeavesTree}
use Rattle.fs_model.specs.Effect.{GroupMakes}
use Rattle.fs_model.specs.Files.{Files, Tree}
use Rattle.fs_model.specs.Journal.{IfTold, IsJournalOf, Journal, MayLeave}
use Rattle.fs_model.specs.Legal.{pages_in}
use Rattle.fs_model.specs.Need.{need_of}
use Rattle.fs_model.specs.Operation.{files_in, outcome_of}
use Rattle.fs_model.specs.Orphan.{without_nameless}
use Rattle.fs_model.specs.Proper.{IsProper}
use Rattle.fs_laws.specs.Sound.{IsCall, IsMoment, IsSound, LeavesSound}
use Rattle.buffered_files.specs.declared.kept.Kept.{Kept}
use Rattle.buffered_files.specs.Alike.{IsAlike}
use Rattle.buffered_files.specs.Calls.{GrowsBy}
use Rattle.buffered_files.specs.Cuts.{HasValues, PutsWith, ValuesOf, ValuesWith}
use Rattle.buffered_files.specs.Cuts.GroupFate.{NotPut}
use Rattle.buffered_files.specs.Present.{IsKept, present}
use Rattle.vfs_plans.specs.Operations.{is_truncate}
use Rattle.vfs_ops.specs.declared.event.Event.{Event}
use Rattle.vfs_ops.specs.declared.event.Event.TheVariants.{Call}
use Rattle.vfs_ops.specs.declared.event.Outcome.{Outcome as EventOutcome}
use Rattle.vfs_ops.specs.declared.event.Outcome.TheVariants.{Replied}
use Rattle.vfs_ops.specs.Events.{group_in, outcome_fate, sets_size}
use Rattle.vfs_ops.specs.FilesState.{FilesState, present_in}
use Rattle.vfs_ops.specs.Kinds.{is_late}
use Rattle.vfs_ops.specs.Operations.{nodes_asked}
use Rattle.vfs_ops.specs.Passing.{IsStep}
use Rattle.vfs_ops.specs.Replies.{IsAlikeOutcome, holds_bytes, is_refusal}

-- What a cut leaves of a step has old values, or those of the files before and of what a group makes of them. After a flush that is done it has those of the files, and after any sync those of the tree.
pub record AreCutLaws : Type 0 where
  pub makes : (files : Files) (caller now : ℕ) (op : Op) → GroupMakes files caller now op
  pub pages : (old new : Journal) (tree left files : Tree) (group : List Change) → IfTold old (IsJournalOf tree) → PutsWith files group NotPut old new → MayLeave new left → HasValues old (ValuesOf files) left
  pub event : (old new : FilesState) (event : Event) (outcome : EventOutcome) (left : Tree) → (sets_size event ≡ true → IsSound (present_in old)) → IfTold old.backing.journal (IsJournalOf old.backing.tree) → IsStep old new event outcome → MayLeave new.backing.journal left
      → HasValues old.backing.journal (ValuesWith (present_in old).tree (group_in (present_in old) event)) left
  pub refused : (old new : FilesState) (event : Event) (outcome : EventOutcome) (left : Tree) → IfTold old.backing.journal (IsJournalOf old.backing.tree) → IsStep old new event outcome → outcome_fate outcome ≡ NotPut → MayLeave new.backing.journal left
      → HasValues old.backing.journal (ValuesOf (present_in old).tree) left
  pub flushed : (old new : FilesState) (caller now grant rest : ℕ) (left : Tree) → old.backing.mode ≡ ReadWrite → IsKept new.backing.tree new.kept → IfTold new.backing.journal (IsJournalOf new.backing.tree)
      → IsStep old new (Call caller now grant Flush) (Replied Done rest) → MayLeave new.backing.journal left → left ≡ without_nameless (present_in new).tree
  pub synced : (state : BackingState) → IfTold state.journal (IsJournalOf state.tree) → IsSynced state → LeavesTree state

-- Files that are alike answer and ask alike, an operation leaves files sound and changes little, and what it answers or refuses.
pub record AreLaws : Type 0 where
  pub answer : (a b : Files) (caller now : ℕ) (op : Op) → IsSound a → IsProper b.tree → IsAlike a b → IsAlikeOutcome (outcome_of a caller now op) (outcome_of b caller now op)
  pub need : (a b : Files) (caller now : ℕ) (op : Op) → (is_truncate op ≡ true → IsSound a) → IsAlike a b → need_of a caller now op ≡ need_of b caller now op
  pub sound : (files : Files) (caller now : ℕ) (op : Op) → IsSound files → IsMoment now → IsCall op → LeavesSound files (files_in files (outcome_of files caller now op))
  pub short : (files : Files) (caller now : ℕ) (op : Op) → nodes_asked files caller now op ≤ 5
  pub early : (files : Files) (caller now : ℕ) (op : Op) (refusal : Refusal) → outcome_of files caller now op ≡ Err refusal → is_late refusal ≡ false
  pub few : (old new : FilesState) (caller now grant : ℕ) (op : Op) (outcome : EventOutcome) → IsSound (present_in old) → IsStep old new (Call caller now grant op) outcome → GrowsBy (5 + 2 * pages_in op) old.backing new.backing old.kept new.kept
  pub told : (files : Files) (caller now : ℕ) (op : Op) (reply : Reply) (after : Files) → IsSound files → outcome_of files caller now op ≡ Ok (reply, after) → is_refusal reply ≡ false
  pub clean : (tree : Tree) (kept : Kept) → IsKept tree kept → kept.pages.dirty ≡ [] → (present tree kept).tree ≡ tree
  pub bytes : (files : Files) (caller now : ℕ) (op : Op) (reply : Reply) (after : Files) → IsSound files → outcome_of files caller now op ≡ Ok (reply, after) → holds_bytes reply ≡ true → after ≡ files
  pub cuts : AreCutLaws
