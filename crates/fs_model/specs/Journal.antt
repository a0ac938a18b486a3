-- The journal under a tree: what was committed, what each head got since, and what a cut may leave of it (Hunter 2008, "The journal" and "The commit").
use Rattle.std.specs.Prelude.{◌≡◌, ℕ, zero, suc, Bool, IsTrue, not, nat_lt, nat_le, Option, Some, None, List, [], ◌∷◌, ◌++◌, map, drop, length}
use Rattle.std.specs.List.{list_all, flat_map}
use Rattle.std.specs.Ordering.{nat_cmp}
use Rattle.fs_model.specs.declared.change.Change.{Change}
use Rattle.fs_model.specs.Files.{Tree}
use Rattle.fs_model.specs.Orphan.{nameless, without_nameless}
use Rattle.fs_model.specs.Proper.{ascends, IsInOrder}
use Rattle.fs_model.specs.Recovery.{Numbered, Head, IsRecovered}

-- What a backing may tell of its journal.
pub record Medium : Type 0 where
  -- the tree at the start of the last finished commit, without what had no name, and what each head got since then
  pub committed : Tree
  pub heads : List Head
  -- the greatest sequence number that was given
  pub sqnum : ℕ
  -- the tree at the start of the running commit, without what had no name, and how many groups each head had then
  pub started : Tree
  pub begun : List ℕ

-- How far a store's journal and its commits are.
pub record Journal : Type 0 where
  -- the number of the commit that runs, and how many LEBs of its index aren't written yet
  pub running : Option ℕ
  pub left : ℕ
  -- the nodes put since the start of the last finished commit, and of these the ones since the start of the running one
  pub nodes : ℕ
  pub later : ℕ
  pub medium : Option Medium

-- this is so of the medium, where it is told
abbrev pub IfTold : Journal → (Medium → Type 0) → Type 0
IfTold journal P = by journal.medium
  where
    by : Option Medium → Type 0
    by None = Unit {0}
    by (Some medium) = P medium

-- this is so of the medium before and after, where it is told
abbrev pub IfBothTold : Journal → Journal → (Medium → Medium → Type 0) → Type 0
IfBothTold old new P = IfTold old (λ before. IfTold new (λ after. P before after))

-- all groups are synced
abbrev pub AreSynced : List Head → Type 0
AreSynced heads = IsTrue (list_all (λ head. not (nat_lt head.synced (length head.groups))) heads)

-- the heads, behind that of the collector: the base, which takes all but data nodes, and that of data nodes
abbrev pub base_head : ℕ
base_head = 1

abbrev pub data_head : ℕ
data_head = 2

-- the heads with one group more at this one
abbrev pub with_group_at : List Head → ℕ → Numbered → List Head
with_group_at [] at group = []
with_group_at (head ∷ heads) zero group = record head { groups = head.groups ++ group ∷ [] } ∷ heads
with_group_at (head ∷ heads) (suc at) group = head ∷ with_group_at heads at group

-- the groups that each head has, but for its first ones, so many
abbrev pub later_groups : List Head → List ℕ → List (List Numbered)
later_groups [] counts = []
later_groups (head ∷ heads) [] = head.groups ∷ later_groups heads []
later_groups (head ∷ heads) (count ∷ counts) = drop count head.groups ∷ later_groups heads counts

-- the numbers of a group ascend, and are above one that was given
pub record AreNext (sqnum : ℕ) (group : Numbered) : Type 0 where
  pub ascending : IsTrue (ascends nat_cmp (map (λ c. c.0) group))
  pub above : IsTrue (list_all (λ c. nat_lt sqnum c.0) group)

-- the last number of a group, or the one given before it
abbrev pub last_number : ℕ → Numbered → ℕ
last_number sqnum [] = sqnum
last_number sqnum (change ∷ changes) = last_number change.0 changes

-- these groups, each at its head, were put one after another
abbrev pub Puts : ℕ → List Head → List (ℕ × List Change) → List Head → Type 0
Puts sqnum heads [] after = after ≡ heads
Puts sqnum heads (put ∷ puts) after =
    (group : Numbered) × AreNext sqnum group × (map (λ c. c.1) group ≡ put.1) × Puts (last_number sqnum group) (with_group_at heads put.0 group) puts after

-- a cut might leave this tree once these groups were put
abbrev pub MightLeave : Journal → List (ℕ × List Change) → Tree → Type 0
MightLeave journal puts tree = by journal.medium
  where
    by : Option Medium → Type 0
    by None = ⊥
    by (Some medium) = (heads : List Head) × Puts medium.sqnum medium.heads puts heads × IsRecovered medium.committed heads tree

-- A call's groups stand last in the journal: whatever is put after them, a cut leaves only what it might have left had all this been put on the journal before. So a cut leaves whole groups alone, and keeps what was synced before.
abbrev pub Leaves : Journal → Journal → List (ℕ × List Change) → Type 0
Leaves old new puts = (more : List (ℕ × List Change)) (tree : Tree) → MightLeave new more tree → MightLeave old (puts ++ more) tree

-- a cut now may leave this tree
abbrev pub MayLeave : Journal → Tree → Type 0
MayLeave journal tree = MightLeave journal [] tree

-- What is always so of a journal that is told, beside this tree. There are three heads, no more is synced than was put, and each number was given. What was committed has a name and is in order of key, and a cut now may leave the tree, without what has no name.
pub record IsJournalOf (tree : Tree) (medium : Medium) : Type 0 where
  pub three : length medium.heads ≡ 3
  pub synced : IsTrue (list_all (λ head. nat_le head.synced (length head.groups)) medium.heads)
  pub given : IsTrue (list_all (λ head. list_all (λ c. nat_le c.0 medium.sqnum) (flat_map (λ group. group) head.groups)) medium.heads)
  pub named : nameless medium.committed ≡ []
  pub ordered : IsInOrder medium.committed
  pub left : IsRecovered medium.committed medium.heads (without_nameless tree)
