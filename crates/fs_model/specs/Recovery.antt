-- What a mount after a cut may find: the committed tree, and of each journal head the first groups, all synced ones among them (Hunter 2008, "The journal"; `ubifs_replay_journal` of Linux fs/ubifs).
use Rattle.std.specs.Prelude.{◌≡◌, ℕ, ◌==◌, ◌≤◌, nat_lt, if◌then◌else◌, List, [], ◌∷◌, ◌++◌, map, fold, take, length}
use Rattle.std.specs.List.{flat_map}
use Rattle.fs_model.specs.declared.change.Change.{Change}
use Rattle.fs_model.specs.declared.change.Change.TheVariants.{SetInode, DropInode}
use Rattle.fs_model.specs.Change.{apply}
use Rattle.fs_model.specs.Files.{Tree}
use Rattle.fs_model.specs.Orphan.{without_nameless}

-- changes, each with the sequence number of its node
abbrev pub Numbered : Type 0
Numbered = List (ℕ × Change)

-- the groups that a head got since the start of the last finished commit, oldest first, and how many of them are synced
pub record Head : Type 0 where
  pub groups : List Numbered
  pub synced : ℕ

-- of each head its first groups, as many as it is counted
abbrev pub taken : List Head → List ℕ → Numbered
taken [] counts = []
taken (head ∷ heads) [] = []
taken (head ∷ heads) (count ∷ counts) = flat_map (λ group. group) (take count head.groups) ++ taken heads counts

-- the counts have all synced groups of each head, and no more than there are
abbrev pub KeepsSynced : List Head → List ℕ → Type 0
KeepsSynced [] [] = Unit {0}
KeepsSynced [] (count ∷ counts) = ⊥
KeepsSynced (head ∷ heads) [] = ⊥
KeepsSynced (head ∷ heads) (count ∷ counts) = (head.synced ≤ count) × (count ≤ length head.groups) × KeepsSynced heads counts

-- a change among others in order of number, behind those of its own number
abbrev pub placed : Numbered → ℕ × Change → Numbered
placed [] change = change ∷ []
placed (first ∷ changes) change = if nat_lt change.0 first.0 then change ∷ first ∷ changes else first ∷ placed changes change

-- changes in order of number; those of one number stay in the order of their heads
abbrev pub by_number : Numbered → Numbered
by_number changes = fold placed [] changes

-- what recovery makes of a change: an inode without links goes
abbrev pub as_replayed : Change → Change
as_replayed (SetInode ino inode) = if inode.nlink == 0 then DropInode ino else SetInode ino inode
as_replayed change = change

-- the tree after changes that are applied in order of number, and without what has no name
abbrev pub recovered : Tree → Numbered → Tree
recovered committed changes = without_nameless (apply committed (map (λ c. as_replayed c.1) (by_number changes)))

-- a cut may leave this tree
pub record IsRecovered (committed : Tree) (heads : List Head) (tree : Tree) : Type 0 where
  pub counts : List ℕ
  pub synced : KeepsSynced heads counts
  pub tree_is : tree ≡ recovered committed (taken heads counts)
