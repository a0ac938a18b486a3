-- What there is to say of a backing of files, and what its calls do to it.
use Rattle.std.specs.Prelude.{◌≡◌, ◌≢◌, ◌⊎◌, ℕ, zero, suc, Bool, IsTrue, ◌+◌, ◌-◌, ◌*◌, ◌^◌, ◌<◌, ◌≤◌, not, ◌==◌, ◌&&◌, max, is_some, Option, Some, None, Result, Ok, Err, List, [], ◌∷◌, length, map, sum_by}
use Rattle.std.specs.List.{list_all}
use Rattle.ubifs_base.specs.declared.raw_geometry.RawGeometry.{RawGeometry}
pub use Rattle.ubifs_base.specs.Faults.{Rose}
use Rattle.fs_model.specs.declared.backing_answers.Mode.{Mode}
use Rattle.fs_model.specs.declared.backing_answers.Mode.TheVariants.{ReadWrite, ReadOnly}
use Rattle.fs_model.specs.declared.backing_answers.StoreFault.{StoreFault}
use Rattle.fs_model.specs.declared.backing_answers.StoreFault.TheVariants.{Memory, Volume, ReadOnly as IsReadOnly}
use Rattle.fs_model.specs.declared.backing_answers.Started.{Started}
use Rattle.fs_model.specs.declared.backing_answers.Started.TheVariants.{Began, Running}
use Rattle.fs_model.specs.declared.backing_answers.Stepped.{Stepped}
use Rattle.fs_model.specs.declared.backing_answers.Stepped.TheVariants.{More, Ready, Idle as NoStep}
use Rattle.fs_model.specs.declared.backing_answers.Ended.{Ended}
use Rattle.fs_model.specs.declared.backing_answers.Ended.TheVariants.{Done, NotReady, Idle as NoEnd}
use Rattle.fs_model.specs.declared.backing_answers.Collected.{Collected}
use Rattle.fs_model.specs.declared.backing_answers.Collected.TheVariants.{Gained, Nothing}
use Rattle.fs_model.specs.declared.page_node.PageNode.{PageNode}
use Rattle.fs_model.specs.declared.change.Change.{Change}
use Rattle.fs_model.specs.declared.change.Change.TheVariants.{SetInode, SetEntry, DropEntry, SetBlock, CutBlocks, DropInode}
use Rattle.fs_model.specs.declared.inode.Kind.TheVariants.{File}
use Rattle.fs_model.specs.declared.refusal.Cause.TheVariants.{Faulted, Spent}
use Rattle.fs_model.specs.declared.space.Grant.{Grant}
use Rattle.fs_model.specs.declared.space.Space.{Space}
use Rattle.fs_model.specs.declared.space.Need.{Need}
use Rattle.fs_model.specs.Change.{apply, without_inode}
use Rattle.fs_model.specs.Cover.{index_lebs}
use Rattle.fs_model.specs.Files.{Tree}
use Rattle.fs_model.specs.Journal.{Journal, Medium, IfTold, IfBothTold, MayLeave, AreSynced, base_head, data_head, later_groups}
use Rattle.fs_model.specs.Need.{change_bytes}
use Rattle.fs_model.specs.Orphan.{nameless, without_nameless, all_revive_none, all_drop_named}
use Rattle.fs_model.specs.Proper.{IsProper, is_inode_node, is_entry_node, is_block_node, is_name, are_words, are_long_words, has_kind}

-- All that there is to say of a backing at one moment, but for what is expected of its volume.
pub record BackingState : Type 0 where
  -- the layout of the volume, and the length at which the next list of orphans is full
  pub geometry : RawGeometry
  pub orphan_limit : ℕ
  -- how many inodes without a name were closed since the last commit's start, ended or not, whose list names them
  pub closed : ℕ
  -- the files, and the numbers that admission reckons with, the credits that are covered among them
  pub tree : Tree
  pub space : Space
  pub grant : Option Grant
  pub journal : Journal
  -- whether collection can gain a LEB
  pub victim : Bool
  -- the bytes of the volume, LEB after LEB, where they are told
  pub contents : Option (List ℕ)
  -- whether it can be written, and how often the volume has failed
  pub mode : Mode
  pub faults : ℕ

-- What is expected of the volume under a backing.
pub record Outlook : Type 1 where
  -- no call fails
  pub sure : Type 0
  -- it takes no more writing, and so for good
  pub spent : Type 0
  -- which call from now on fails, and no other, where this is told: 1 for the next one, 0 for none
  pub strike : Option ℕ

-- a read-write backing can be written no more: the volume failed in this call, or a number is used up
abbrev pub IsLost : BackingState → BackingState → Type 0
IsLost old new =
    ((count : ℕ) × (new.mode ≡ ReadOnly (Faulted count)) × Rose old.faults count × (count ≤ new.faults))
    ⊎ ((sqnum : ℕ) × (cmt_no : ℕ) × (new.mode ≡ ReadOnly (Spent sqnum cmt_no)) × ((2 ^ 63 ≤ sqnum) ⊎ (2 ^ 63 ≤ cmt_no)))

-- the mode stays, or the backing is read-only from now on
abbrev pub ModeGoes : BackingState → BackingState → Type 0
ModeGoes old new = (new.mode ≡ old.mode) ⊎ ((old.mode ≡ ReadWrite) × IsLost old new)

-- What every call keeps to that puts so many nodes. The index never outgrows what the weight allows.
pub record Goes (nodes : ℕ) (old new : BackingState) : Type 0 where
  pub geometry : new.geometry ≡ old.geometry
  pub orphan_limit : new.orphan_limit ≡ old.orphan_limit
  pub mode : ModeGoes old new
  pub faults : old.faults ≤ new.faults
  pub weight : new.space.weight ≤ old.space.weight + nodes
  pub index : new.space.index ≤ max old.space.index (2 * index_lebs old.geometry (old.space.weight + nodes))
  pub nodes_put : new.journal.nodes ≤ old.journal.nodes + nodes
  pub told : is_some new.journal.medium ≡ is_some old.journal.medium

-- Volume comes only where the count of faults rose, and tells it; the backing is then read-only. Want of memory is free.
abbrev pub HasCause : {T : Type 0} → BackingState → BackingState → Result T StoreFault → Type 0
HasCause old new (Ok x) = Unit {0}
HasCause old new (Err Memory) = Unit {0}
HasCause old new (Err (Volume count)) = Rose old.faults new.faults × (count ≡ new.faults) × (new.mode ≢ ReadWrite)
HasCause old new (Err (IsReadOnly cause)) = Unit {0}

-- the answer isn't that the backing is read-only
abbrev pub IsNotReadOnly : {T : Type 0} → Result T StoreFault → Type 0
IsNotReadOnly (Err (IsReadOnly cause)) = ⊥
IsNotReadOnly result = Unit {0}

-- a call that changes the store answers that it is read-only exactly where it is, with the cause
abbrev pub HasMode : {T : Type 0} → Mode → Result T StoreFault → Type 0
HasMode ReadWrite result = IsNotReadOnly result
HasMode (ReadOnly cause) result = (result ≡ Err (IsReadOnly cause)) ⊎ (result ≡ Err Memory)

-- What a call leaves in the journal of what it puts: all of it, also where the volume failed, and nothing where there was no memory or the backing is read-only.
abbrev pub put_by : {T X : Type 0} → Result T StoreFault → List X → List X
put_by (Ok x) puts = puts
put_by (Err Memory) puts = []
put_by (Err (Volume count)) puts = puts
put_by (Err (IsReadOnly cause)) puts = []

-- the answer isn't that the volume failed
abbrev pub IsNotVolume : {T : Type 0} → Result T StoreFault → Type 0
IsNotVolume (Err (Volume count)) = ⊥
IsNotVolume result = Unit {0}

-- the answer is that the volume failed
abbrev pub IsVolume : {T : Type 0} → Result T StoreFault → Type 0
IsVolume (Err (Volume count)) = Unit {0}
IsVolume result = ⊥

-- a call was counted, of which this one fails
abbrev pub IsStruck : {T : Type 0} → Option ℕ → Option ℕ → Result T StoreFault → Type 0
IsStruck None after result = Unit {0}
IsStruck (Some zero) after result = (after ≡ Some 0) × IsNotVolume result
IsStruck (Some (suc zero)) after result = (after ≡ Some 0) × IsVolume result
IsStruck (Some (suc (suc n))) after result = (after ≡ Some (suc n)) × IsNotVolume result

-- one that is refused as read-only isn't counted
abbrev pub Strikes : {T : Type 0} → Option ℕ → Option ℕ → Result T StoreFault → Type 0
Strikes before after (Err (IsReadOnly cause)) = after ≡ before
Strikes before after result = IsStruck before after result

-- one that is refused as read-only leaves all as it was
abbrev pub IsUntouched : {T : Type 0} → BackingState → BackingState → Result T StoreFault → Type 0
IsUntouched old new (Err (IsReadOnly cause)) = new ≡ old
IsUntouched old new result = Unit {0}

-- Where the volume was sure, it still is, and the call met no fault; or the volume is spent now. A refusal as read-only changes nothing.
pub record StaysSure {T : Type 0} (before after : Outlook) (old new : BackingState) (result : Result T StoreFault) : Type 0 where
  pub sure : before.sure → after.spent ⊎ (after.sure × (new.faults ≡ old.faults) × IsNotVolume result)
  pub spent : before.spent → after.spent
  pub strike : Strikes before.strike after.strike result
  pub untouched : IsUntouched old new result

-- the same of a call that can't fail
pub record KeepsSure (before after : Outlook) : Type 0 where
  pub sure : before.sure → after.sure
  pub spent : before.spent → after.spent
  pub strike : after.strike ≡ before.strike

-- a call that looks at the tree
abbrev pub Reads : BackingState → BackingState → Type 0
Reads old new = new ≡ record old { mode = new.mode; faults = new.faults }

-- the files, the credits and the grant are as they were, and neither more bytes are held nor more orphans closed
pub record KeepsFiles (old new : BackingState) : Type 0 where
  pub tree : new.tree ≡ old.tree
  pub credits : new.space.credits ≡ old.space.credits
  pub grant : new.grant ≡ old.grant
  pub held : new.space.held ≤ old.space.held
  pub closed : new.closed ≤ old.closed

-- each of its numbers is below 2^32
pub record IsModest (need : Need) : Type 0 where
  pub credits : need.credits < 2 ^ 32
  pub bytes : need.bytes < 2 ^ 32
  pub nodes : need.nodes < 2 ^ 32

-- each of its numbers is below 2^40
pub record IsSmall (space : Space) : Type 0 where
  pub used : space.used < 2 ^ 40
  pub held : space.held < 2 ^ 40
  pub credits : space.credits < 2 ^ 40
  pub weight : space.weight < 2 ^ 40

-- the credits are covered, and the bytes and nodes are the grant
abbrev pub granted : BackingState → Need → BackingState
granted state need =
    record state { space = record state.space { credits = state.space.credits + need.credits }; grant = Some (record { bytes = need.bytes; nodes = need.nodes }) }

-- so many credits are covered no longer
abbrev pub given_back : BackingState → ℕ → BackingState
given_back state credits = record state { space = record state.space { credits = state.space.credits - credits } }

-- the changes of a page's two nodes
abbrev pub page_group : PageNode → List Change
page_group page = SetInode page.ino page.inode ∷ SetBlock page.ino page.block page.bytes ∷ []

-- a page's inode goes to the base, and its data to the head of data
abbrev pub page_puts : PageNode → List (ℕ × List Change)
page_puts page = (base_head, SetInode page.ino page.inode ∷ []) ∷ (data_head, SetBlock page.ino page.block page.bytes ∷ []) ∷ []

-- a page that a credit pays: a file's block, and an inode without data of its own
pub record FitsPage (tree : Tree) (page : PageNode) : Type 0 where
  pub block : IsTrue (is_block_node ((page.ino, page.block), page.bytes))
  pub inode : IsTrue (is_inode_node (page.ino, page.inode))
  pub file : IsTrue (has_kind tree page.ino File)
  pub no_data : page.inode.extra ≡ []
  pub revives_none : IsTrue (all_revive_none tree (page_group page))
  pub proper : IsProper (apply tree (page_group page))

-- a change that a leaf node can carry (ubifs-media.h); an entry of inode 0 is one that goes
abbrev pub is_node : Change → Bool
is_node (SetInode ino inode) = is_inode_node (ino, inode)
is_node (SetEntry entry) = is_entry_node ((entry.dir, entry.name), entry) && not (entry.ino == 0)
is_node (DropEntry dir name) = are_words (dir ∷ []) && is_name name
is_node (SetBlock ino block bytes) = is_block_node ((ino, block), bytes)
is_node (CutBlocks ino old_size new_size) = are_words (ino ∷ []) && are_long_words (old_size ∷ new_size ∷ [])
is_node (DropInode ino) = not (ino == 0) && are_words (ino ∷ [])

-- the most bytes that a group's nodes take
abbrev pub group_limit : ℕ
group_limit = 5280

-- a group that its grant pays
pub record FitsGroup (tree : Tree) (grant : Grant) (group : List Change) : Type 0 where
  pub are_nodes : IsTrue (list_all is_node group)
  pub nodes : length group ≤ grant.nodes
  pub bytes : sum_by (change_bytes tree) group ≤ grant.bytes
  pub limit : sum_by (change_bytes tree) group ≤ group_limit
  pub revives_none : IsTrue (all_revive_none tree group)
  pub drops : IsTrue (all_drop_named tree group)
  pub proper : IsProper (apply tree group)

-- how many orphans the next list has: the open inodes without a name, and those closed that the list of the last commit names
abbrev pub next_orphans : BackingState → ℕ
next_orphans state = length (nameless state.tree) + state.closed

-- how many more it takes
abbrev pub orphan_room : BackingState → ℕ
orphan_room state = state.orphan_limit - next_orphans state

-- after a group there are no more inodes without a name than before, or, with those closed, at most as many as a list takes
abbrev pub FitsOrphans : Tree → ℕ → ℕ → List Change → Type 0
FitsOrphans tree closed limit group = (length (nameless (apply tree group)) ≤ length (nameless tree)) ⊎ (length (nameless (apply tree group)) + closed ≤ limit)

-- A group that was admitted: it brings back no inode; and where the tree is proper, its grant pays it, and the list of orphans has room.
pub record IsAdmitted (state : BackingState) (group : List Change) : Type 0 where
  pub grant : Grant
  pub granted : state.grant ≡ Some grant
  pub revives_none : IsTrue (all_revive_none state.tree group)
  pub paid : IsProper state.tree → FitsGroup state.tree grant group
  pub orphans : IsProper state.tree → FitsOrphans state.tree state.closed state.orphan_limit group

-- the page's inode and block are set, and a credit is spent
pub record IsPagePut (old new : BackingState) (page : PageNode) : Type 0 where
  pub tree : new.tree ≡ apply old.tree (page_group page)
  pub credits : new.space.credits + 1 ≡ old.space.credits
  pub grant : new.grant ≡ old.grant
  pub closed : new.closed ≤ old.closed

-- the group's changes are made, and its grant has ended
pub record IsGroupPut (old new : BackingState) (group : List Change) : Type 0 where
  pub tree : new.tree ≡ apply old.tree group
  pub credits : new.space.credits ≡ old.space.credits
  pub grant : new.grant ≡ None
  pub closed : new.closed ≤ old.closed

-- an inode without a name is gone, with its blocks, and no node was put; the next list of orphans gets no longer
pub record IsDropped (old new : BackingState) (ino : ℕ) : Type 0 where
  pub tree : new.tree ≡ without_inode old.tree ino
  pub credits : new.space.credits ≡ old.space.credits
  pub grant : new.grant ≡ old.grant
  pub closed : new.closed ≤ old.closed + 1

-- all that was put is synced
pub record IsSynced (state : BackingState) : Type 0 where
  pub held : state.space.held ≡ 0
  pub heads : IfTold state.journal (λ medium. AreSynced medium.heads)

-- a cut now leaves this tree alone, but for what has no name
abbrev pub LeavesTree : BackingState → Type 0
LeavesTree state = (tree : Tree) → MayLeave state.journal tree → tree ≡ without_nameless state.tree

-- whether a commit starts, or one runs
abbrev pub started_of : Option ℕ → Started
started_of None = Began
started_of (Some cmt_no) = Running cmt_no

-- what a commit has left to write
abbrev pub stepped_of : Option ℕ → ℕ → Stepped
stepped_of None left = NoStep
stepped_of (Some cmt_no) zero = Ready
stepped_of (Some cmt_no) (suc left) = More (suc left)

-- whether a commit ends
abbrev pub ended_of : Option ℕ → ℕ → Ended
ended_of None left = NoEnd
ended_of (Some cmt_no) zero = Done cmt_no
ended_of (Some cmt_no) (suc left) = NotReady (suc left)

-- what was committed, and what the running commit began on, are as they were, where they are told
abbrev pub KeepsStart : Journal → Journal → Type 0
KeepsStart old new = IfBothTold old new (λ before after. (after.committed ≡ before.committed) × (after.started ≡ before.started) × (after.begun ≡ before.begun))

-- the commit that runs, if one does, goes on as it was
pub record KeepsCommit (old new : Journal) : Type 0 where
  pub running : new.running ≡ old.running
  pub left : new.left ≡ old.left
  pub nodes : new.nodes ≡ old.nodes
  pub later : new.later ≡ old.later
  pub start : KeepsStart old new

-- The tree at the commit's start is the committed one, the nodes put since are those put since its start, and of each head those groups stay that it got since its start.
pub record IsCommitted (old new : BackingState) : Type 0 where
  pub running : new.journal.running ≡ None
  pub nodes : new.journal.nodes ≡ old.journal.later
  pub committed : IfBothTold old.journal new.journal (λ before after. after.committed ≡ before.started)
  pub heads : IfBothTold old.journal new.journal (λ before after. map (λ head. head.groups) after.heads ≡ later_groups before.heads before.begun)

-- the commit that runs goes on, or it was ended
abbrev pub KeepsOrEnds : BackingState → BackingState → Type 0
KeepsOrEnds old new = KeepsCommit old.journal new.journal ⊎ (IsTrue (is_some old.journal.running) × IsCommitted old new)

-- What a commit began on: the tree without what has no name, with all groups that each head had.
pub record IsBegun (tree : Tree) (medium : Medium) : Type 0 where
  pub started : medium.started ≡ without_nameless tree
  pub begun : medium.begun ≡ map (λ head. length head.groups) medium.heads

-- a commit runs, begun on the tree as it is, since when no orphan was closed; or the one that ran before goes on
abbrev pub IsStarted : BackingState → BackingState → Started → Type 0
IsStarted old new Began =
    (old.journal.running ≡ None) × ((cmt_no : ℕ) × (new.journal.running ≡ Some cmt_no)) × (new.journal.later ≡ 0)
    × (new.closed ≡ 0) × IfTold new.journal (IsBegun old.tree) × IsSynced new
IsStarted old new (Running cmt_no) = (old.journal.running ≡ Some cmt_no) × KeepsCommit old.journal new.journal

-- a LEB of the index is written where one is left
pub record IsStepped (old new : BackingState) (stepped : Stepped) : Type 0 where
  pub answer : stepped ≡ stepped_of old.journal.running new.journal.left
  pub left : new.journal.left ≡ old.journal.left - 1
  pub running : new.journal.running ≡ old.journal.running
  pub nodes : new.journal.nodes ≡ old.journal.nodes
  pub later : new.journal.later ≡ old.journal.later
  pub start : KeepsStart old.journal new.journal

-- the commit ends where nothing is left to write, and else it stays as it is
abbrev pub IsEnded : BackingState → BackingState → Ended → Type 0
IsEnded old new (Done cmt_no) = IsCommitted old new
IsEnded old new ended = new.journal ≡ old.journal

-- what a pass of collection answers
abbrev pub IsCollected : BackingState → BackingState → Collected → Type 0
IsCollected old new (Gained lnum) = IsTrue old.victim × IsSynced new
IsCollected old new Nothing = IsTrue (not old.victim)
