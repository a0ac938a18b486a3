-- What comes of an event.
use Rattle.std.specs.Prelude.{◌≡◌, ℕ, ◌+◌, ◌*◌, ◌^◌, ◌<◌, ◌≤◌, max, Bool, false, Some, List, []}
use Rattle.std.specs.BTreeMap.{is_at}
use Rattle.std.specs.Map.{lookup}
use Rattle.fs_model.specs.declared.backing_answers.Mode.{Mode}
use Rattle.fs_model.specs.declared.backing_answers.Mode.TheVariants.{ReadWrite}
use Rattle.fs_model.specs.declared.change.Change.{Change}
use Rattle.fs_model.specs.declared.op.Op.{Op}
use Rattle.fs_model.specs.declared.op.Op.TheVariants.{Fsync, Flush}
use Rattle.fs_model.specs.declared.reply.Reply.{Reply}
use Rattle.fs_model.specs.declared.reply.Reply.TheVariants.{Done}
use Rattle.fs_model.specs.declared.refusal.NoSpace.{NoSpace}
use Rattle.fs_model.specs.Backing.{BackingState, IsSynced}
use Rattle.fs_model.specs.Files.{Files, pair_cmp}
use Rattle.fs_model.specs.Legal.{pages_in}
use Rattle.fs_model.specs.Operation.{group_of}
use Rattle.fs_laws.specs.Sound.{IsCall}
use Rattle.buffered_files.specs.declared.kept.Kept.{Kept}
use Rattle.buffered_files.specs.Calls.{GrowsBy}
use Rattle.buffered_files.specs.Alike.{IsAlike}
use Rattle.buffered_files.specs.Cuts.{GroupFate, PutsSeenWith}
use Rattle.buffered_files.specs.Cuts.GroupFate.{NotPut}
use Rattle.buffered_files.specs.Present.{has_dirty, present}
use Rattle.vfs_plans.specs.Operations.{is_truncate}
use Rattle.vfs_ops.specs.declared.event.Event.{Event}
use Rattle.vfs_ops.specs.declared.event.Event.TheVariants.{Call, Drain, Refill}
use Rattle.vfs_ops.specs.declared.event.Outcome.{Outcome}
use Rattle.vfs_ops.specs.declared.event.Outcome.TheVariants.{Replied}
use Rattle.vfs_ops.specs.Kinds.{KeepsOthers, added_by, reply_fate}
use Rattle.vfs_ops.specs.Operations.{nodes_asked}
use Rattle.vfs_ops.specs.Steps.{IsAdmittedReply, IsAnswered, IsAtOnceReply, IsExact, Passage}
use Rattle.vfs_ops.specs.Writing.{BuffersReply}

-- any operation that gives bytes; any event of the background, that asks for fewer than 2^32 credits
abbrev pub IsCalled : Event → Type 0
IsCalled (Call caller now grant op) = IsCall op
IsCalled (Refill n) = n < 2 ^ 32
IsCalled event = Unit {0}

-- the issued credits that it takes: those that a caller brings, or that are given back
abbrev pub grant_of : Event → ℕ
grant_of (Call caller now grant op) = grant
grant_of (Drain n) = n
grant_of event = 0

-- the group that its operation puts
abbrev pub group_in : Files → Event → List Change
group_in files (Call caller now grant op) = group_of files caller now op
group_in files event = []

-- what it tells of the group that was to be put; the background puts none
abbrev pub outcome_fate : Outcome → GroupFate
outcome_fate (Replied reply left) = reply_fate reply
outcome_fate outcome = NotPut

-- whether its operation sets a file's size
abbrev pub sets_size : Event → Bool
sets_size (Call caller now grant op) = is_truncate op
sets_size event = false

-- the nodes that its group asks for
abbrev pub nodes_asked_in : Files → Event → ℕ
nodes_asked_in files (Call caller now grant op) = nodes_asked files caller now op
nodes_asked_in files event = 0

-- What a cut leaves of an operation: pages with the values of the files before, and then its group as a whole. That is its group on files that are alike: a page that was put for room may have other zeros at its end, which a new size takes away.
pub record PutsCall (old new : BackingState) (kept : Kept) (caller now : ℕ) (op : Op) (fate : GroupFate) : Type 0 where
  pub seen : Files
  pub alike : IsAlike (present old.tree kept) seen
  pub cut : PutsSeenWith old new kept (group_of seen caller now op) fate

-- the same of an event
abbrev pub PutsCalled : BackingState → BackingState → Kept → Event → Outcome → Type 0
PutsCalled old new kept (Call caller now grant op) outcome = PutsCall old new kept caller now op (outcome_fate outcome)
PutsCalled old new kept event outcome = ⊥

-- A call is answered as its operation says, and no more of its grant is left than there was.
abbrev pub IsAnswer : BackingState → BackingState → Kept → Kept → List NoSpace → List NoSpace → Event → Outcome → Type 0
IsAnswer old new before after refused_before refused_after (Call caller now grant op) (Replied reply left) =
    IsAnswered old new after (present old.tree before) caller now grant op reply refused_before refused_after × (left ≤ grant)
IsAnswer old new before after refused_before refused_after event outcome = ⊥

-- how much of the grant a call leaves, and whether it only looks
abbrev pub IsExactCall : Passage → Event → Outcome → Type 0
IsExactCall p (Call caller now grant op) (Replied reply left) = IsExact p caller now grant op reply left
IsExactCall p event outcome = ⊥

-- a sync of one file leaves the dirty pages of the others
abbrev pub KeepsOthersCall : Kept → Kept → Event → Type 0
KeepsOthersCall before after (Call caller now grant op) = KeepsOthers before after caller op
KeepsOthersCall before after event = ⊥

-- With the dirty pages the index gets heavier by two nodes for each page that a write touches, and by those that its group asks for. A call that is refused adds nothing, but where the volume failed: then what it was putting.
abbrev pub IsWeighedCall : Passage → Event → Outcome → Type 0
IsWeighedCall p (Call caller now grant op) (Replied reply left) =
    GrowsBy (added_by (2 * pages_in op + nodes_asked (present p.old.tree p.before) caller now op) (max 2 (nodes_asked (present p.old.tree p.before) caller now op)) reply) p.old p.new p.before p.after
IsWeighedCall p event outcome = ⊥

-- the outcome is a reply
abbrev pub IsReply : Outcome → Type 0
IsReply (Replied reply left) = Unit {0}
IsReply outcome = ⊥

-- what is left of the grant
abbrev pub left_of : Outcome → ℕ
left_of (Replied reply left) = left
left_of outcome = 0

-- After a sync that is done on a store that could be written all that was put is synced. No page is dirty then, of any file after a flush, and of the slot's file after a sync of that one.
abbrev pub HasSynced : Mode → BackingState → Kept → Kept → ℕ → Op → Reply → Type 0
HasSynced ReadWrite new before after caller Flush Done = IsSynced new × (after.pages.dirty ≡ []) × (after.inodes ≡ [])
HasSynced ReadWrite new before after caller (Fsync slot) Done =
    IsSynced new × ((ino : ℕ) → lookup (is_at (pair_cmp (caller, slot))) before.handles ≡ Some ino → has_dirty after.pages.dirty ino ≡ false)
HasSynced mode new before after caller op reply = Unit {0}

abbrev pub IsWrittenBack : Mode → BackingState → Kept → Kept → Event → Outcome → Type 0
IsWrittenBack mode new before after (Call caller now grant op) (Replied reply left) = HasSynced mode new before after caller op reply
IsWrittenBack mode new before after event outcome = ⊥

-- what a call asks for that is done was admitted
abbrev pub IsAdmittedCall : BackingState → BackingState → Kept → Event → Outcome → Type 0
IsAdmittedCall old new before (Call caller now grant op) (Replied reply left) = IsAdmittedReply old new before caller now grant op reply
IsAdmittedCall old new before event outcome = ⊥

-- where there is room at once nothing is refused for want of it, and no more nodes are put than the group's
abbrev pub IsAtOnceCall : BackingState → BackingState → Kept → List NoSpace → List NoSpace → Event → Type 0
IsAtOnceCall old new before first last (Call caller now grant op) = IsAtOnceReply old new before caller now op first last
IsAtOnceCall old new before first last event = ⊥

-- a write that its grant or the first test covers is buffered
abbrev pub IsBufferedCall : BackingState → BackingState → Kept → Kept → List NoSpace → List NoSpace → Event → Outcome → Type 0
IsBufferedCall old new before after first last (Call caller now grant op) (Replied reply left) = BuffersReply old new before after first last caller grant op reply
IsBufferedCall old new before after first last event outcome = ⊥
