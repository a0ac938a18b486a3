-- What a script does: what each of its lines answers, the files that it leaves and what is stored of them, and the text that is printed.
use Rattle.std.specs.Prelude.{◌≡◌, ◌⊎◌, ℕ, ◌+◌, ◌-◌, ◌*◌, ◌<◌, ◌≤◌, max, if◌then◌else◌, Bool, true, false, Option, Some, Ok, Err, List, [], ◌∷◌, ◌++◌, length, codes}
use Rattle.ubifs_base.specs.declared.raw_geometry.RawGeometry.{RawGeometry}
use Rattle.ubifs_base.specs.Areas.{main_lebs}
use Rattle.small_areas.specs.Orphans.{orphan_limit}
use Rattle.fs_model.specs.declared.op.Op.{Op}
use Rattle.fs_model.specs.declared.op.Op.TheVariants.{Flush, Fsync}
use Rattle.fs_model.specs.declared.refusal.NoSpace.{NoSpace}
use Rattle.fs_model.specs.declared.refusal.Refusal.{Refusal}
use Rattle.fs_model.specs.declared.refusal.Refusal.TheVariants.{Enospc}
use Rattle.fs_model.specs.declared.reply.Reply.{Reply}
use Rattle.fs_model.specs.declared.reply.Reply.TheVariants.{Done, Refused}
use Rattle.fs_model.specs.declared.space.Grant.{Grant}
use Rattle.fs_model.specs.declared.space.Need.{Need}
use Rattle.fs_model.specs.declared.space.Space.{Space}
use Rattle.fs_model.specs.declared.trace.TraceLine.{TraceLine}
use Rattle.fs_model.specs.Cover.{index_lebs, needed, room_for, tree_bytes}
use Rattle.fs_model.specs.Files.{Tree, Files, handle_at}
use Rattle.fs_model.specs.Journal.{Journal, MayLeave}
use Rattle.fs_model.specs.Legal.{pages_in}
use Rattle.fs_model.specs.Orphan.{leaves_orphan, nameless, without_nameless}
use Rattle.fs_model.specs.Outcome.{Outcome}
use Rattle.fs_model.specs.Worked.{fresh}
use Rattle.buffered_files.specs.declared.kept.Kept.{Kept}
use Rattle.buffered_files.specs.Alike.{IsAlike}
use Rattle.buffered_files.specs.Present.{IsKept, present}
use Rattle.plain_backing.specs.Covering.{IsCovering}
use Rattle.vfs_ops.specs.Kinds.{added_by, is_question}
use Rattle.vfs_ops.specs.Operations.{nodes_asked}
use Rattle.vfs_ops.specs.Replies.{is_refusal}
use Rattle.vfs_ops.specs.Steps.{IsDone, allowed, asked}
use Rattle.traced_files.specs.Seen.{IsFileStored, LeavesSeen}
use Rattle.script_text.specs.declared.part.Part.{Part}
use Rattle.script_text.specs.declared.part.Part.TheVariants.{Mount, Unmount, Now, Workers, Line}
use Rattle.script_text.specs.Reply.{reply_line}
use Rattle.text_lines.specs.Lines.{ended}
use Rattle.script_run.specs.Admission.{HadRoom, least_need}
use Rattle.script_run.specs.Stored.{IsUnder, is_early}

-- where a script is
pub record ScriptRunning : Type 0 where
  -- the files as callers see them, and the tree that is stored under them
  pub files : Files
  pub stored : Tree
  -- what the index weighs once all dirty pages are put, at most, and how many LEBs it takes
  pub weight : ℕ
  pub index : ℕ
  -- what is in the journal of what is stored, which says what a cut may leave
  pub journal : Journal
  -- how many inodes without a name, which the last commit's list names, were closed since its start
  pub closed : ℕ
  -- whether the volume is mounted, the time, and how many lines of the caller stand behind the last line of another kind
  pub mounted : Bool
  pub now : ℕ
  pub number : ℕ
  -- how many workers are at work beside the callers
  pub workers : ℕ

-- A volume with this tree and this journal, which isn't mounted, beside an index of this weight. How many LEBs the index takes isn't asked: no more than its weight asks for.
abbrev pub opening_on : Tree → Journal → ℕ → ScriptRunning
opening_on tree journal weight = record { files = record { tree = tree; handles = [] }; stored = tree; journal = journal; weight = weight; index = 0; closed = 0; mounted = false; now = 0; number = 0; workers = 0 }

-- a fresh volume with this journal: the root's node is all that its index has
abbrev pub opening : Journal → ScriptRunning
opening journal = opening_on fresh.tree journal 1

-- A cut leaves this tree, without what has no name, and nothing else. So the journal is told.
abbrev pub LeavesOnly : Journal → Tree → Type 0
LeavesOnly journal tree = MayLeave journal (without_nameless tree) × ((left : Tree) → MayLeave journal left → left ≡ without_nameless tree)

-- how many numbers the next list of orphans has: the inodes without a name, and those that were closed since the last list
abbrev pub orphans_told : ScriptRunning → ℕ
orphans_told before = length (nameless before.files.tree) + before.closed

-- The plain operation. What takes the last name of an open file is refused if the next list of orphans is full.
abbrev pub plain : RawGeometry → ScriptRunning → ℕ → Op → Outcome
plain geo before caller op = allowed (orphan_limit geo.leb_size - orphans_told before) (orphan_limit geo.leb_size) before.files caller before.now op

-- what admission reckons with where no page is dirty: the bytes of the files, and the index
abbrev pub clean_space : RawGeometry → ScriptRunning → Space
clean_space geo here = record { used = tree_bytes here.files.tree; held = 0; credits = 0; empty = 0; index = here.index; weight = here.weight; main = main_lebs geo }

-- The volume's numbers count the bytes that are stored, and a credit for each page that is dirty over them and for no other. All that was granted has room, with these credits.
pub record IsScriptCovered (geo : RawGeometry) (here : ScriptRunning) : Type 0 where
  pub kept : Kept
  pub fits : IsKept here.stored kept
  pub seen : present here.stored kept ≡ here.files
  pub space : Space
  pub main : space.main ≡ main_lebs geo
  pub used : space.used ≡ tree_bytes here.stored
  pub credits : space.credits ≡ length kept.pages.dirty
  pub weight : here.weight ≡ space.weight + 2 * length kept.pages.dirty
  pub index : here.index ≡ space.index
  pub grant : Option Grant
  pub covers : IsCovering geo here.stored space grant

-- with no page dirty there is no room for what is asked: the two sides of the test
pub record HasNoRoom (geo : RawGeometry) (here : ScriptRunning) (need : Need) (sides : NoSpace) : Type 0 where
  pub need_is : sides.need ≡ needed (clean_space geo here) need
  pub room_is : sides.room ≡ room_for geo (clean_space geo here) need
  pub full : sides.room < sides.need

-- Refused for want of room for what is asked, where nothing else refuses. It is a write that touches a page, or has a group of changes with a node to put.
pub record IsRefusedForRoom (geo : RawGeometry) (before : ScriptRunning) (caller : ℕ) (op : Op) (reply : Reply) (after : ScriptRunning) : Type 0 where
  pub sides : NoSpace
  pub told : reply ≡ Refused (Enospc sides)
  pub asks : (0 < pages_in op) ⊎ (0 < nodes_asked before.files caller before.now op)
  pub free : (done : Reply × Files) × (plain geo before caller op ≡ Ok done)
  pub room : HasNoRoom geo after (asked before.files caller before.now 0 op) sides

-- Refused, as the plain operation is or for want of room; the files are as before.
pub record IsScriptRefusal (geo : RawGeometry) (before : ScriptRunning) (caller : ℕ) (op : Op) (reply : Reply) (after : ScriptRunning) : Type 0 where
  pub why : ((refusal : Refusal) × (plain geo before caller op ≡ Err refusal) × (reply ≡ Refused refusal)) ⊎ IsRefusedForRoom geo before caller op reply after
  pub same : IsAlike before.files after.files

-- What a caller's operation answers, and the files then: but for zeros at the ends of blocks, which nobody sees, those that the plain operation leaves.
abbrev pub IsScriptAnswer : RawGeometry → ScriptRunning → ℕ → Op → Reply → ScriptRunning → Type 0
IsScriptAnswer geo before caller op reply after = IsDone (plain geo before caller op) after.files reply ⊎ IsScriptRefusal geo before caller op reply after

-- The next list of orphans gets longer by one at most, and only if an open file lost its last name.
abbrev pub OrphansGrow : ScriptRunning → ScriptRunning → Type 0
OrphansGrow before after = orphans_told after ≤ orphans_told before + (if leaves_orphan before.files after.files then 1 else 0)

-- After a sync that is done that is stored which it names: all that callers see, or the file of its slot.
abbrev pub HasStored : ScriptRunning → ℕ → Op → Reply → ScriptRunning → Type 0
HasStored before caller Flush Done after = after.stored ≡ after.files.tree
HasStored before caller (Fsync slot) Done after = (ino : ℕ) → handle_at before.files caller slot ≡ Some ino → IsFileStored after.stored after.files.tree ino
HasStored before caller op reply after = Unit {0}

-- The index got heavier by so many nodes at most. It takes no more LEBs than before, or than twice those that it asks for with so many nodes on top.
pub record HasGrown (geo : RawGeometry) (added put : ℕ) (before after : ScriptRunning) : Type 0 where
  pub weight : after.weight ≤ before.weight + added
  pub index : after.index ≤ max before.index (2 * index_lebs geo (before.weight + put))

-- An unmount puts the files as they are. Then nobody has a file open any more, what has no name is gone, and a cut leaves nothing else. The index gets no heavier.
pub record IsUnmounted (geo : RawGeometry) (before after : ScriptRunning) : Type 0 where
  pub put : Tree
  pub same : IsAlike before.files (record before.files { tree = put })
  pub stored : after.stored ≡ without_nameless put
  pub files : after.files ≡ record { tree = without_nameless put; handles = [] }
  pub left : LeavesOnly after.journal after.stored
  pub grown : HasGrown geo 0 0 before after
  pub closed : after.closed ≡ 0
  pub mounted : after.mounted ≡ false
  pub now : after.now ≡ before.now
  pub number : after.number ≡ 0
  pub workers : after.workers ≡ before.workers

-- how many nodes an operation's group asks for
abbrev pub nodes_for : ScriptRunning → ℕ → Op → ℕ
nodes_for before caller op = nodes_asked before.files caller before.now op

-- how many nodes the index gets heavier by at most: two for each page that a write touches, and those of the group; a refusal adds none
abbrev pub nodes_added : ScriptRunning → ℕ → Op → Reply → ℕ
nodes_added before caller op reply = added_by (2 * pages_in op + nodes_for before caller op) (max 2 (nodes_for before caller op)) reply

-- What is done and asks for a credit or a node had room for that. The index behind the line has this weight.
abbrev pub IsAdmittedLine : RawGeometry → ScriptRunning → ℕ → Op → Reply → ℕ → Type 0
IsAdmittedLine geo before caller op reply index =
    is_refusal reply ≡ false → 0 < (least_need before.files caller before.now op).credits + (least_need before.files caller before.now op).nodes
    → HadRoom geo before.files (least_need before.files caller before.now op) index

-- a caller's line, as the next of its trace
abbrev pub script_line_of : ScriptRunning → ℕ → Op → Reply → TraceLine
script_line_of before caller op reply = record { caller = caller; number = before.number + 1; now = before.now; op = op; reply = reply }

-- What a caller's operation answers and leaves.
pub record IsReplied (geo : RawGeometry) (before : ScriptRunning) (caller : ℕ) (op : Op) (reply : Reply) (after : ScriptRunning) : Type 0 where
  pub answer : IsScriptAnswer geo before caller op reply after
  pub orphans : OrphansGrow before after
  -- What is stored is joined to the files by what is kept in memory; after a sync it is what that names.
  pub under : IsUnder after.stored after.files
  pub synced : HasStored before caller op reply after
  -- What a cut leaves was seen before the line or behind it, or it might have left that before; of what a sync made last it is what callers see. It may leave what is stored.
  pub left : LeavesSeen before.files before.journal (script_line_of before caller op reply ∷ []) after.journal
  pub stored : MayLeave after.journal (without_nameless after.stored)
  -- What only looks, or is refused before anything is put, stores nothing.
  pub still : (is_question op ≡ true) ⊎ (is_early reply ≡ true) → after.stored ≡ before.stored
  -- The index gets heavier by what is put at most; a group has five nodes at most.
  pub grown : HasGrown geo (nodes_added before caller op reply) (nodes_for before caller op) before after
  pub few : nodes_for before caller op ≤ 5
  -- All that was promised has room.
  pub covered : IsScriptCovered geo after
  -- What is done had room for what it asks, beside an index that with its nodes is no lighter than this one.
  pub admitted : IsAdmittedLine geo before caller op reply covered.space.weight

-- a caller's line: the reply to it, under the next number
pub record IsLineServed (geo : RawGeometry) (before : ScriptRunning) (caller : ℕ) (op : Op) (text : List ℕ) (after : ScriptRunning) : Type 0 where
  pub reply : Reply
  pub replied : IsReplied geo before caller op reply after
  pub printed : text ≡ reply_line caller (before.number + 1) reply
  pub rest : after ≡ record before { files = after.files; stored = after.stored; journal = after.journal; weight = after.weight; index = after.index; closed = after.closed; number = before.number + 1 }

-- what one line prints, and what it leaves
abbrev pub IsScriptPart : RawGeometry → ScriptRunning → Part → List ℕ → ScriptRunning → Type 0
IsScriptPart geo before Mount text after = (text ≡ ended (codes "mount rw")) × (after ≡ record before { mounted = true; number = 0 })
IsScriptPart geo before Unmount text after = (text ≡ ended (codes "unmount clean")) × IsUnmounted geo before after
IsScriptPart geo before (Now now) text after = (text ≡ []) × (after ≡ record before { now = now; number = 0 })
IsScriptPart geo before (Workers count) text after = (text ≡ []) × (after ≡ record before { workers = count; number = 0 })
IsScriptPart geo before (Line caller op) text after = IsLineServed geo before caller op text after

-- The lines, one after another: the text of them all, and what the last one leaves.
abbrev pub IsRun : RawGeometry → ScriptRunning → List Part → List ℕ → ScriptRunning → Type 0
IsRun geo before [] text after = (text ≡ []) × (after ≡ before)
IsRun geo before (part ∷ parts) text after =
    (line : List ℕ) × (next : ScriptRunning) × (rest : List ℕ) × IsScriptPart geo before part line next × IsRun geo next parts rest after × (text ≡ line ++ rest)

-- What is stored at the end is under what callers saw last, and a cut then would leave it, without what has no name. If the volume isn't mounted, it is what they saw.
pub record IsScriptLeft (last : ScriptRunning) : Type 0 where
  pub under : IsUnder last.stored last.files
  pub stored : MayLeave last.journal (without_nameless last.stored)
  pub unmounted : last.mounted ≡ false → last.files ≡ record { tree = last.stored; handles = [] }
