-- What a cut may leave of calls, one place of the tree at a time: an inode, an entry or a block.
use Rattle.std.specs.Prelude.{◌≡◌, ◌⊎◌, ℕ, Option, Result, Ok, Err, List, [], ◌∷◌, ◌++◌, map}
use Rattle.std.specs.List.{AllByRecursion}
use Rattle.fs_model.specs.declared.backing_answers.StoreFault.{StoreFault}
use Rattle.fs_model.specs.declared.change.Change.{Change}
use Rattle.fs_model.specs.declared.inode.Inode.{Inode}
use Rattle.fs_model.specs.declared.inode.Entry.{Entry}
use Rattle.fs_model.specs.declared.refusal.Refusal.{Refusal}
use Rattle.fs_model.specs.declared.refusal.Refusal.TheVariants.{Eio}
use Rattle.fs_model.specs.CallFaults.{refusal_of}
use Rattle.fs_model.specs.Change.{apply}
use Rattle.fs_model.specs.Files.{Tree, inode_at, entry_at, block_at}
use Rattle.fs_model.specs.Journal.{Journal, Leaves, MayLeave, base_head}
use Rattle.fs_model.specs.Orphan.{without_nameless}
use Rattle.fs_model.specs.Proper.{IsInOrder}
use Rattle.fs_model.specs.Recovery.{as_replayed}
use Rattle.fs_model.specs.Same.{trimmed}
use Rattle.fs_model.specs.Backing.{BackingState}
use Rattle.buffered_files.specs.declared.kept.Kept.{Kept}
use Rattle.buffered_files.specs.Present.{present}

-- a place of a tree: that of an inode by number, of an entry by directory and name, or of a block by inode and number
pub data TreePlace : Type 0 where
  InodeAt : (ino : ℕ) → TreePlace
  EntryAt : (dir : ℕ) (name : List ℕ) → TreePlace
  BlockAt : (ino block : ℕ) → TreePlace

-- what stands at a place, where nothing is a value too; of a block the bytes up to the last that isn't zero
pub data Value : Type 0 where
  AnInode : (found : Option Inode) → Value
  AnEntry : (found : Option Entry) → Value
  ABlock : (bytes : List ℕ) → Value

abbrev pub value_at : Tree → TreePlace → Value
value_at tree (InodeAt ino) = AnInode (inode_at tree ino)
value_at tree (EntryAt dir name) = AnEntry (entry_at tree dir name)
value_at tree (BlockAt ino block) = ABlock (trimmed (block_at tree.blocks ino block))

-- some values, at each place
abbrev pub Values : Type 1
Values = TreePlace → Value → Type 0

-- the values of a tree, with what has no name or without it
abbrev pub ValuesOf : Tree → Values
ValuesOf tree place value = (value ≡ value_at tree place) ⊎ (value ≡ value_at (without_nameless tree) place)

-- the values of a tree, and of what a group makes of it
abbrev pub ValuesWith : Tree → List Change → Values
ValuesWith tree group place value = ValuesOf tree place value ⊎ ValuesOf (apply tree group) place value

-- each value of a tree is one of a tree that a cut might leave of this journal, or one of these
abbrev pub HasValues : Journal → Values → Tree → Type 0
HasValues journal values tree = (place : TreePlace) → ((before : Tree) × MayLeave journal before × (value_at tree place ≡ value_at before place)) ⊎ values place (value_at tree place)

-- a tree with a group replayed on it
abbrev pub replayed_on : Tree → List Change → Tree
replayed_on tree group = apply tree (map as_replayed group)

-- on whichever tree a group is replayed, each value that changes by it is one of these
abbrev pub GivesOnly : Values → List Change → Type 0
GivesOnly values group = (tree : Tree) (place : TreePlace) → IsInOrder tree → (value_at (replayed_on tree group) place ≡ value_at tree place) ⊎ values place (value_at (replayed_on tree group) place)

-- A cut leaves of calls groups that they put, and each value of these is one of those.
pub record PutsOnly (values : Values) (old new : Journal) : Type 0 where
  pub puts : List (ℕ × List Change)
  pub gives : AllByRecursion (λ put. GivesOnly values put.1) puts
  pub cut : Leaves old new puts

-- What became of a group: it was put, or it wasn't; or the volume failed, and a cut may leave it or not.
pub data GroupFate : Type 0 where
  WasPut : GroupFate
  NotPut : GroupFate
  MayBePut : GroupFate

-- what a refusal tells of the group that was to be put
abbrev pub refused_fate : Refusal → GroupFate
refused_fate (Eio count) = MayBePut
refused_fate refusal = NotPut

-- what an answer tells of it
abbrev pub group_fate : {T : Type 0} → Result T Refusal → GroupFate
group_fate (Ok x) = WasPut
group_fate (Err refusal) = refused_fate refusal

-- the same of a backing's answer
abbrev pub put_fate : {T : Type 0} → Result T StoreFault → GroupFate
put_fate (Ok x) = WasPut
put_fate (Err fault) = refused_fate (refusal_of fault)

-- the last group that a call put, by what became of it; a group without changes needn't be put
abbrev pub IsLastPut : GroupFate → List Change → List (ℕ × List Change) → Type 0
IsLastPut WasPut group last = (last ≡ (base_head, group) ∷ []) ⊎ ((group ≡ []) × (last ≡ []))
IsLastPut NotPut group last = last ≡ []
IsLastPut MayBePut group last = (last ≡ []) ⊎ (last ≡ (base_head, group) ∷ [])

-- A cut leaves of calls first groups that they put of pages, each value of which is one of a tree. Then it leaves this group where it was put, whose values are those of the tree or of what the group makes of it.
pub record PutsWith (tree : Tree) (group : List Change) (fate : GroupFate) (old new : Journal) : Type 0 where
  pub pages : List (ℕ × List Change)
  pub gives : AllByRecursion (λ put. GivesOnly (ValuesOf tree) put.1) pages
  pub last : List (ℕ × List Change)
  pub whole : IsLastPut fate group last
  pub makes : AllByRecursion (λ put. GivesOnly (ValuesWith tree group) put.1) last
  pub cut : Leaves old new (pages ++ last)

-- what a call leaves of pages has the values of the files that callers saw before it
abbrev pub PutsSeen : BackingState → BackingState → Kept → Type 0
PutsSeen old new kept = PutsOnly (ValuesOf (present old.tree kept).tree) old.journal new.journal

-- and then of a group, where it was put, those of what it makes of them
abbrev pub PutsSeenWith : BackingState → BackingState → Kept → List Change → GroupFate → Type 0
PutsSeenWith old new kept group fate = PutsWith (present old.tree kept).tree group fate old.journal new.journal
