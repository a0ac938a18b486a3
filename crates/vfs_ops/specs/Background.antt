-- What is done beside callers: pages are picked and put, all is synced, LEBs are collected, commits go on, and credits come and go.
use Rattle.std.specs.Prelude.{◌≡◌, ◌≢◌, ℕ, ◌+◌, ◌<◌, ◌≤◌, Bool, true, false, Result, Ok, Err, Option, Some, [], length}
use Rattle.std.specs.Option.{option_map, option_map_or}
use Rattle.fs_model.specs.declared.backing_answers.Mode.TheVariants.{ReadWrite, ReadOnly}
use Rattle.fs_model.specs.declared.backing_answers.StoreFault.{StoreFault}
use Rattle.fs_model.specs.declared.backing_answers.StoreFault.TheVariants.{Memory, Volume, ReadOnly as IsReadOnly}
use Rattle.fs_model.specs.declared.refusal.Cause.{Cause}
use Rattle.fs_model.specs.declared.page_node.PageNode.{PageNode}
use Rattle.fs_model.specs.Backing.{BackingState, Goes, HasCause, HasMode, IsCollected, IsEnded, IsPagePut, IsStarted, IsStepped, IsSynced, KeepsCommit, KeepsFiles, KeepsOrEnds, ended_of, given_back, granted, next_orphans, page_group, page_puts, put_by, started_of}
use Rattle.fs_model.specs.Cover.{needed, room_for}
use Rattle.fs_model.specs.Journal.{Leaves}
use Rattle.page_cache.specs.Pages.{dirty_at, oldest_of, without_dirty}
use Rattle.buffered_files.specs.declared.kept.Kept.{Kept}
use Rattle.buffered_files.specs.Alike.{IsAlike}
use Rattle.buffered_files.specs.Calls.{GrowsBy}
use Rattle.buffered_files.specs.Cuts.{PutsSeen}
use Rattle.buffered_files.specs.PagePut.{page_at}
use Rattle.vfs_ops.specs.declared.event.Encoded.{Encoded}
use Rattle.vfs_ops.specs.declared.event.Event.{Event}
use Rattle.vfs_ops.specs.declared.event.Event.TheVariants.{Call, Put, Pick, Sync, Collect, CommitStart, CommitStep, CommitEnd, Refill, Drain}
use Rattle.vfs_ops.specs.declared.event.Outcome.{Outcome}
use Rattle.vfs_ops.specs.declared.event.Outcome.TheVariants.{Page, NoPage, PutDone, Stale, Synced, Did, Began, Went, Closed, Granted, Refused, Drained, Fault}
use Rattle.vfs_ops.specs.FilesState.{FilesState, LeavesKept, present_in}
use Rattle.vfs_ops.specs.Steps.{Passage}
use Rattle.vfs_ops.specs.Writing.{credits_need}

-- the version of a block's dirty page, 0 where it isn't dirty
abbrev pub version_at : Kept → ℕ → ℕ → ℕ
version_at kept ino block = option_map_or (λ dirty. dirty.version) (dirty_at kept.pages ino block) 0

-- a block's page as it is put, under this version
abbrev pub encoded : ℕ → ℕ → ℕ → PageNode → Encoded
encoded ino block version page = record { ino = ino; block = block; version = version; bytes = page.bytes }

-- what a pick of a block's dirty page gives: its present version, and its bytes up to its file's end
abbrev pub encoded_at : Kept → ℕ → ℕ → Option Encoded
encoded_at kept ino block = option_map (encoded ino block (version_at kept ino block)) (page_at kept ino block)

-- What a pick answers: the page that became dirty first, as it is now; nothing, if no page is dirty; or that there is no memory for its bytes.
abbrev pub IsPicked : Kept → Outcome → Type 0
IsPicked kept (Page shown) = (oldest_of kept.pages ≡ Some (record { ino = shown.ino; block = shown.block; version = shown.version })) × (encoded_at kept shown.ino shown.block ≡ Some shown)
IsPicked kept NoPage = kept.pages.dirty ≡ []
IsPicked kept (Fault Memory) = 0 < length kept.pages.dirty
IsPicked kept outcome = ⊥

-- A page that is still as it was picked was put with its file's inode as that is now. It is clean, and a credit is spent.
pub record IsPlaced (p : Passage) (page : Encoded) : Type 0 where
  pub node : PageNode
  pub found : page_at p.before page.ino page.block ≡ Some node
  pub current : encoded_at p.before page.ino page.block ≡ Some page
  pub put : IsPagePut p.old p.new node
  pub clean : p.after ≡ record p.before { pages = without_dirty p.before.pages page.ino page.block }
  pub mode : p.old.mode ≡ ReadWrite
  pub cut : Leaves p.old.journal p.new.journal (page_puts node)

-- A page that isn't as it was picked was left as it is, and so is all else. Its version then and now is told.
pub record IsStale (p : Passage) (page : Encoded) (kept now : ℕ) : Type 0 where
  pub changed : encoded_at p.before page.ino page.block ≢ Some page
  pub kept_is : kept ≡ page.version
  pub now_is : now ≡ version_at p.before page.ino page.block
  pub backing : p.new ≡ p.old
  pub pages : p.after ≡ p.before

-- One that is read-only answers its cause, and all stays as it is.
abbrev pub IsIdleFor : BackingState → BackingState → StoreFault → Type 0
IsIdleFor old new fault = (cause : Cause) → old.mode ≡ ReadOnly cause → (fault ≡ IsReadOnly cause) × (new ≡ old)

-- A page that is still as it was picked couldn't be put. It is dirty and paid as before. Only where the volume failed may a cut leave its nodes, and the index be heavier.
pub record IsUnplaced (p : Passage) (page : Encoded) (fault : StoreFault) : Type 0 where
  pub node : PageNode
  pub found : page_at p.before page.ino page.block ≡ Some node
  pub current : encoded_at p.before page.ino page.block ≡ Some page
  pub pages : p.after ≡ p.before
  pub files : KeepsFiles p.old p.new
  pub cause : HasCause {T = Unit {0}} p.old p.new (Err fault)
  pub mode : HasMode {T = Unit {0}} p.old.mode (Err fault)
  pub goes : Goes (length (put_by {T = Unit {0}} (Err fault) (page_group node))) p.old p.new
  pub idle : IsIdleFor p.old p.new fault
  pub cut : Leaves p.old.journal p.new.journal (put_by {T = Unit {0}} (Err fault) (page_puts node))

-- what the put of a page answers and leaves
abbrev pub IsPut : Passage → Encoded → Outcome → Type 0
IsPut p shown PutDone = IsPlaced p shown
IsPut p shown (Stale kept now) = IsStale p shown kept now
IsPut p shown (Fault why) = IsUnplaced p shown why
IsPut p shown outcome = ⊥

-- What each call of the background of a backing keeps to: the files stay, nothing is put, and why it fails. One that is read-only answers its cause, and stays as it is.
pub record IsBackingCall {T : Type 0} (old new : BackingState) (result : Result T StoreFault) : Type 0 where
  pub files : KeepsFiles old new
  pub cut : Leaves old.journal new.journal []
  pub goes : Goes 0 old new
  pub cause : HasCause old new result
  pub mode : HasMode old.mode result
  pub idle : old.mode ≢ ReadWrite → new ≡ old
  pub closed : (cause : Cause) → old.mode ≡ ReadOnly cause → result ≡ Err (IsReadOnly cause)

-- more credits are covered, since there is room for them
abbrev pub IsGranted : BackingState → BackingState → ℕ → Type 0
IsGranted old new n = (needed old.space (credits_need n) ≤ room_for old.geometry old.space (credits_need n)) × (new ≡ granted old (credits_need n))

-- What the backing is asked for beside callers, and what it answers and leaves.
abbrev pub IsChore : BackingState → BackingState → Event → Outcome → Type 0
IsChore old new Sync Synced = IsBackingCall {T = Unit {0}} old new (Ok tt) × IsSynced new × KeepsOrEnds old new
IsChore old new Sync (Fault why) = IsBackingCall {T = Unit {0}} old new (Err why) × KeepsOrEnds old new
IsChore old new Collect (Did collected) = IsBackingCall old new (Ok collected) × IsCollected old new collected × KeepsOrEnds old new
IsChore old new Collect (Fault why) = IsBackingCall {T = Unit {0}} old new (Err why) × KeepsOrEnds old new
IsChore old new CommitStart (Began started) = IsBackingCall old new (Ok started) × (started ≡ started_of old.journal.running) × IsStarted old new started
IsChore old new CommitStart (Fault why) = IsBackingCall {T = Unit {0}} old new (Err why) × KeepsCommit old.journal new.journal
IsChore old new CommitStep (Went stepped) = IsBackingCall old new (Ok stepped) × IsStepped old new stepped
IsChore old new CommitStep (Fault why) = IsBackingCall {T = Unit {0}} old new (Err why) × KeepsCommit old.journal new.journal
IsChore old new CommitEnd (Closed ended) = IsBackingCall old new (Ok ended) × (ended ≡ ended_of old.journal.running old.journal.left) × IsEnded old new ended
IsChore old new CommitEnd (Fault why) = IsBackingCall {T = Unit {0}} old new (Err why) × KeepsCommit old.journal new.journal
IsChore old new (Refill n) (Granted m) = (m ≡ n) × IsGranted old new n
IsChore old new (Refill n) (Refused space) =
    (new ≡ old) × (space.need ≡ needed old.space (credits_need n)) × (space.room ≡ room_for old.geometry old.space (credits_need n)) × (space.room < space.need)
IsChore old new (Drain n) (Drained m) = (m ≡ n) × (new ≡ given_back old n)
IsChore old new event outcome = ⊥

-- whether it is asked for work on what was put, which a read-only one doesn't do
abbrev pub is_work : Event → Bool
is_work Sync = true
is_work Collect = true
is_work CommitStart = true
is_work CommitStep = true
is_work CommitEnd = true
is_work event = false

-- whether the backing alone is asked for something
abbrev pub is_chore : Event → Bool
is_chore (Call caller now grant op) = false
is_chore Pick = false
is_chore (Put shown) = false
is_chore event = true

-- what comes of an event of the background
abbrev pub IsMade : FilesState → FilesState → Event → Outcome → Type 0
IsMade old new Pick outcome = IsPicked old.kept outcome × (new ≡ old)
IsMade old new (Put shown) outcome = IsPut (record { old = old.backing; new = new.backing; before = old.kept; after = new.kept }) shown outcome
IsMade old new event outcome = IsChore old.backing new.backing event outcome × LeavesKept old new

-- the credits that an outcome says were covered
abbrev pub granted_in : Outcome → ℕ
granted_in (Granted n) = n
granted_in outcome = 0

-- the credits that it says were given back
abbrev pub drained_in : Outcome → ℕ
drained_in (Drained n) = n
drained_in outcome = 0

-- the nodes that an event puts at most: a page's two
abbrev pub nodes_in : Event → ℕ
nodes_in (Put shown) = 2
nodes_in event = 0

-- the nodes by which the index gets heavier at most, dirty pages included: those of a put that the volume failed
abbrev pub added_in : Event → Outcome → ℕ
added_in event (Fault (Volume count)) = nodes_in event
added_in event outcome = 0

-- What an event of the background does to the files, and what comes of it.
pub record IsBackgroundStep (old new : FilesState) (event : Event) (outcome : Outcome) : Type 0 where
  -- What was asked for is done, or why not is told.
  pub made : IsMade old new event outcome
  -- Callers see the same files.
  pub same : IsAlike (present_in old) (present_in new)
  -- No refusal is noted.
  pub refused : new.refused ≡ old.refused
  -- The credits beside those of dirty pages stay, but for those that were granted or drained.
  pub issued : new.backing.space.credits + length old.kept.pages.dirty + drained_in outcome ≡ old.backing.space.credits + length new.kept.pages.dirty + granted_in outcome
  -- With the dirty pages the index gets no heavier, but where the volume failed a put.
  pub weighed : GrowsBy (added_in event outcome) old.backing new.backing old.kept new.kept
  -- The next list of orphans gets no longer.
  pub orphans : next_orphans new.backing ≤ next_orphans old.backing
  -- What a cut leaves of it has the values of the files before.
  pub cut : PutsSeen old.backing new.backing old.kept
  -- What the backing may have done meanwhile: a put puts two nodes at most, and no other event puts any.
  pub goes : Goes (nodes_in event) old.backing new.backing
