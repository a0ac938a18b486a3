-- What an event does to the files, and what a group does that is put.
use Rattle.std.specs.Prelude.{◌≡◌, ◌+◌, ◌*◌, ◌++◌, max, Result, Err, OnOk, OnErr, IfErr, List, length}
use Rattle.fs_model.specs.declared.backing_answers.Mode.{Mode}
use Rattle.fs_model.specs.declared.backing_answers.Mode.TheVariants.{ReadWrite, ReadOnly}
use Rattle.fs_model.specs.declared.change.Change.{Change}
use Rattle.fs_model.specs.declared.refusal.Refusal.{Refusal}
use Rattle.fs_model.specs.declared.refusal.Refusal.TheVariants.{Erofs}
use Rattle.fs_model.specs.declared.space.Need.{Need}
use Rattle.fs_model.specs.Backing.{FitsGroup, FitsOrphans, Goes, IsModest}
use Rattle.fs_model.specs.Change.{apply}
use Rattle.fs_model.specs.Files.{Files}
use Rattle.fs_laws.specs.Sound.{IsSound}
use Rattle.buffered_files.specs.Alike.{IsAlike}
use Rattle.buffered_files.specs.Calls.{GrowsBy, IsWithoutRoom, WasCovered, added_or_refused}
use Rattle.buffered_files.specs.Cuts.{PutsSeenWith, group_fate}
use Rattle.buffered_files.specs.Follow.{AreOfNames}
use Rattle.vfs_ops.specs.declared.event.Event.{Event}
use Rattle.vfs_ops.specs.declared.event.Event.TheVariants.{Call}
use Rattle.vfs_ops.specs.declared.event.Outcome.{Outcome}
use Rattle.vfs_ops.specs.Background.{IsBackgroundStep}
use Rattle.vfs_ops.specs.Events.{IsAdmittedCall, IsAnswer, IsAtOnceCall, IsBufferedCall, IsExactCall, IsWeighedCall, IsWrittenBack, KeepsOthersCall, PutsCalled, grant_of, left_of, nodes_asked_in}
use Rattle.vfs_ops.specs.FilesState.{FilesState, present_in}
use Rattle.vfs_ops.specs.Kinds.{FitsNextOrphans, KeepsOrphans}
use Rattle.vfs_ops.specs.Steps.{no_space_from}
use Rattle.vfs_ops.specs.Writing.{HasGroupRoom}

-- What a caller's event does to the files, and what comes of it.
pub record IsCallStep (old new : FilesState) (event : Event) (outcome : Outcome) : Type 0 where
  -- The reply and the files are the plain operation's, or it is refused for a cause that is told and the files are as before. No more of the grant is left than there was.
  pub answered : IsAnswer old.backing new.backing old.kept new.kept old.refused new.refused event outcome
  -- What is left is the grant less the pages that became dirty; a question only looks, and so does a refusal that comes before anything is put.
  pub exact : IsExactCall (record { old = old.backing; new = new.backing; before = old.kept; after = new.kept }) event outcome
  -- A sync of one file leaves the dirty pages of the others.
  pub others : KeepsOthersCall old.kept new.kept event
  -- The credits beside those of dirty pages stay, but for what is taken of the grant.
  pub issued : new.backing.space.credits + length old.kept.pages.dirty + grant_of event ≡ old.backing.space.credits + length new.kept.pages.dirty + left_of outcome
  -- After a sync that is done no page is dirty of what it names, and all that was put is synced.
  pub written : IsWrittenBack old.backing.mode new.backing old.kept new.kept event outcome
  -- What is done was admitted.
  pub admitted : IsAdmittedCall old.backing new.backing old.kept event outcome
  -- Where its group is empty or the first test holds, it isn't refused for want of room, and no more nodes are put than the group's.
  pub at_once : IsAtOnceCall old.backing new.backing old.kept old.refused new.refused event
  -- A write that its grant or the first test covers stays in memory.
  pub buffered : IsBufferedCall old.backing new.backing old.kept new.kept old.refused new.refused event outcome
  -- With the dirty pages the index gets heavier by what the call wrote and what its group asks for.
  pub weighed : IsWeighedCall (record { old = old.backing; new = new.backing; before = old.kept; after = new.kept }) event outcome
  -- The next list of orphans gets longer by one at most, where an open inode lost its last name.
  pub orphans : KeepsOrphans old.backing new.backing (present_in old) (present_in new)
  -- A cut leaves of it pages with the values of the files before, and then its group as a whole. It was put where the call is done. It wasn't where it is refused, unless the volume failed.
  pub cut : PutsCalled old.backing new.backing old.kept event outcome
  -- What the backing may have done meanwhile: at most two nodes for each dirty page, and those that the group asks for.
  pub goes : Goes (2 * length old.kept.pages.dirty + nodes_asked_in (present_in old) event) old.backing new.backing

-- What an event does to the files, and what comes of it: of a caller's, or of one of the background.
abbrev pub IsStep : FilesState → FilesState → Event → Outcome → Type 0
IsStep old new (Call caller now grant op) outcome = IsCallStep old new (Call caller now grant op) outcome
IsStep old new event outcome = IsBackgroundStep old new event outcome

-- the files with a group of changes made
abbrev pub with_group : FilesState → List Change → Files
with_group old group = record (present_in old) { tree = apply (present_in old).tree group }

-- A group of changes of inodes and names that may be put: it was reckoned on the present files, and its need asks for no credit.
pub record MayApply (old : FilesState) (group : List Change) (need : Need) : Type 0 where
  pub modest : IsModest need
  pub credits : need.credits ≡ 0
  pub fits : FitsGroup (present_in old).tree (record { bytes = need.bytes; nodes = need.nodes }) group
  pub orphans : FitsOrphans (present_in old).tree old.backing.closed old.backing.orphan_limit group
  pub names : AreOfNames (present_in old).tree group
  pub sound : IsSound (with_group old group)

-- a read-only store refuses with its cause, and all is as it was
abbrev pub HasOpen : {T : Type 0} → FilesState → FilesState → Mode → Result T Refusal → Type 0
HasOpen old new ReadWrite result = Unit {0}
HasOpen old new (ReadOnly cause) result = (result ≡ Err (Erofs cause)) × (new ≡ old)

-- What a group does to the files, and what is answered.
pub record IsApplied {T : Type 0} (old new : FilesState) (group : List Change) (need : Need) (result : Result T Refusal) : Type 0 where
  -- Done, callers see the group, but for zeros at the ends of blocks.
  pub done : OnOk result (IsAlike (with_group old group) (present_in new))
  -- Refused, they see the files as before.
  pub same : OnErr result (IsAlike (present_in old) (present_in new))
  -- What is done was admitted.
  pub admitted : OnOk result (WasCovered old.backing new.backing old.kept need need (length group))
  -- Where the first test holds, it isn't refused for want of room, and no more nodes are put than the group's.
  pub at_once : HasGroupRoom old.backing need → (new.refused ≡ old.refused) × Goes (length group) old.backing new.backing
  -- Why it isn't done: no room with no page dirty and a commit ended, a fault, a read-only store, or want of memory.
  pub why : IfErr result (IsWithoutRoom old.backing new.backing new.kept need)
  -- A read-only store refuses before all else, and nothing changes.
  pub read_only : HasOpen old new old.backing.mode result
  -- The sides of a refusal for want of room are noted.
  pub refused : new.refused ≡ old.refused ++ no_space_from result
  -- The credits beside those of dirty pages stay.
  pub issued : new.backing.space.credits + length old.kept.pages.dirty ≡ old.backing.space.credits + length new.kept.pages.dirty
  -- With the dirty pages the index gets heavier by the group alone, and by nothing where that wasn't put.
  pub weighed : GrowsBy (added_or_refused (length group) (max 2 (length group)) result) old.backing new.backing old.kept new.kept
  -- The next list of orphans gets no longer, or it has room.
  pub orphans : FitsNextOrphans old.backing new.backing
  -- A cut leaves of it pages with the values of the files before, and then the group as a whole. Done, it was put; refused, it wasn't, unless the volume failed.
  pub cut : PutsSeenWith old.backing new.backing old.kept group (group_fate result)
  -- What the backing may have done meanwhile: at most two nodes for each dirty page, and the group.
  pub goes : Goes (2 * length old.kept.pages.dirty + length group) old.backing new.backing
