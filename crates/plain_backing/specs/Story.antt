-- What a plain backing tells of its journal, and what its calls make of that.
use Rattle.std.specs.Prelude.{◌≡◌, ℕ, ◌+◌, Bool, true, Err, List, [], ◌∷◌, length, map, replicate}
use Rattle.std.specs.List.{list_all}
use Rattle.fs_model.specs.declared.change.Change.{Change}
use Rattle.fs_model.specs.declared.backing_answers.StoreFault.{StoreFault}
use Rattle.fs_model.specs.Backing.{put_by}
use Rattle.fs_model.specs.Files.{Tree}
use Rattle.fs_model.specs.Journal.{Medium, last_number, with_group_at}
use Rattle.fs_model.specs.JournalLaws.{emptied, groups_of, no_groups}
use Rattle.fs_model.specs.Orphan.{nameless, without_nameless}
use Rattle.fs_model.specs.Path.{is_empty}
use Rattle.fs_model.specs.Proper.{IsInOrder}
use Rattle.fs_model.specs.Recovery.{Numbered, Head, KeepsSynced, taken, recovered}
use Rattle.fs_model.specs.RecoveryLaws.{IsParted, joined, in_groups, in_heads, are_low, replayed, all_counts}

-- What a plain backing tells of its journal.
pub record Story : Type 0 where
  -- the tree at the start of the last finished commit, without what had no name
  pub committed : Tree
  -- what each head got from then up to the running commit's start, and the tree that this one began on
  pub before : List (List Numbered)
  pub started : Tree
  -- what each head got since, and how many of these groups make the tree: all but those at whose put the volume failed
  pub since : List Head
  pub counts : List ℕ
  -- the greatest number at the running commit's start, and now
  pub mark : ℕ
  pub sqnum : ℕ

-- the journal's medium
abbrev pub medium_of : Story → Medium
medium_of s = record { committed = s.committed; heads = joined s.before s.since; sqnum = s.sqnum; started = s.started; begun = map (λ (groups : List Numbered). length groups) s.before }

-- three heads that got nothing before
abbrev pub none_before : List (List Numbered)
none_before = [] ∷ [] ∷ [] ∷ []

-- the story of a tree on which nothing was put
abbrev pub opened_story : Tree → Story
opened_story tree = record { committed = without_nameless tree; before = none_before; started = without_nameless tree; since = replicate 3 no_groups; counts = replicate 3 0; mark = 0; sqnum = 0 }

-- changes with the next numbers
abbrev pub numbered : ℕ → List Change → Numbered
numbered sqnum [] = []
numbered sqnum (change ∷ changes) = (sqnum + 1, change) ∷ numbered (sqnum + 1) changes

-- a group stands last at a head, and isn't synced
abbrev pub put_at : Story → ℕ → List Change → Story
put_at s at changes = record s { since = with_group_at s.since at (numbered s.sqnum changes); sqnum = last_number s.sqnum (numbered s.sqnum changes) }

-- groups that the volume failed to put: a cut may leave them, and the tree doesn't have them
abbrev pub failed_puts : Story → List (ℕ × List Change) → Story
failed_puts s [] = s
failed_puts s (put ∷ puts) = failed_puts (put_at s put.0 put.1) puts

-- what a call that met this fault leaves of what it was to put
abbrev pub lost_by : {X : Type 0} → StoreFault → List X → List X
lost_by fault puts = put_by {T = Unit {0}} (Err fault) puts

-- the tree has all groups
abbrev pub with_all : Story → Story
with_all s = record s { counts = all_counts s.since }

-- groups that were put
abbrev pub with_puts : Story → List (ℕ × List Change) → Story
with_puts s puts = with_all (failed_puts s puts)

-- all is synced
abbrev pub synced_story : Story → Story
synced_story s = record s { since = map (λ (head : Head). record { groups = head.groups; synced = length head.groups }) s.since }

-- a commit begins on this tree, where none runs
abbrev pub begun : Story → Tree → Story
begun s tree = record { committed = s.committed; before = groups_of s.since; started = without_nameless tree; since = emptied s.since; counts = all_counts (emptied s.since); mark = s.sqnum; sqnum = s.sqnum }

-- the commit ends
abbrev pub ended_story : Story → Story
ended_story s = record s { committed = s.started; before = none_before }

-- whether nothing was put before the groups since
abbrev pub is_story_idle : Story → Bool
is_story_idle s = list_all is_empty s.before

-- each number was given
abbrev pub AreGiven : ℕ → List Head → Type 0
AreGiven sqnum heads = list_all (λ (head : Head). are_low sqnum (in_groups head.groups)) heads ≡ true

-- What is always so of a story, beside this tree. What was committed is in order of key, and it and the groups before lead to the tree that the commit began on; that tree and the groups since, as many as are counted, lead to the tree, without what has no name.
pub record IsStory (tree : Tree) (s : Story) : Type 0 where
  pub in_order : IsInOrder tree
  pub three : length s.since ≡ 3
  pub parted : IsParted s.mark s.sqnum s.before s.since
  pub given : AreGiven s.sqnum s.since
  pub began : s.started ≡ replayed s.committed (in_heads s.before)
  pub named : nameless s.committed ≡ []
  pub ordered : IsInOrder s.committed
  pub keeps : KeepsSynced s.since s.counts
  pub left : without_nameless tree ≡ recovered s.started (taken s.since s.counts)

-- the tree has all groups
abbrev pub HasAllGroups : Story → Type 0
HasAllGroups s = s.counts ≡ all_counts s.since
