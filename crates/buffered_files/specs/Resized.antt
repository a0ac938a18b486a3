-- What is kept once the size of a file was set.
use Rattle.std.specs.Prelude.{◌≡◌, ℕ, ◌+◌, ◌/◌, ◌≤◌, Some, List, [], ◌∷◌, Bool, true, false}
use Rattle.fs_model.specs.declared.change.Change.{Change}
use Rattle.fs_model.specs.declared.change.Change.TheVariants.{CutBlocks}
use Rattle.fs_model.specs.declared.inode.Inode.{Inode}
use Rattle.fs_model.specs.declared.inode.Kind.TheVariants.{File}
use Rattle.fs_model.specs.Files.{Files, Tree, inode_at}
use Rattle.fs_model.specs.Handles.{size_limit}
use Rattle.fs_model.specs.Truncation.{truncating}
use Rattle.page_cache.specs.Pages.{Pages, without_cut}
use Rattle.fs_model.specs.declared.space.Class.TheVariants.{Ordinary, Removal}
use Rattle.fs_model.specs.declared.space.Need.{Need}
use Rattle.fs_model.specs.Backing.{BackingState}
use Rattle.fs_model.specs.Need.{truncation_need}
use Rattle.buffered_files.specs.declared.kept.Kept.{Kept}
use Rattle.buffered_files.specs.Alike.{IsAlike}
use Rattle.buffered_files.specs.Cuts.{GroupFate, PutsSeenWith}
use Rattle.buffered_files.specs.Follow.{followed}
use Rattle.buffered_files.specs.Present.{present}

-- The first page of a file that goes with a smaller size. It is that of the block which is put shortened, or the first one that begins at the new size or past it.
abbrev pub first_gone : ℕ → List Change → ℕ
first_gone size [] = (size + 4095) / 4096
first_gone size (shortened ∷ rest) = size / 4096

-- the pages that are left after the group of a new size
abbrev pub pages_left : Pages → List Change → Pages
pages_left pages (set ∷ CutBlocks ino old_size new_size ∷ rest) = without_cut pages ino (first_gone new_size rest)
pages_left pages group = pages

-- what is kept after it: the file's inode, where it is kept, and the pages before the new end
abbrev pub resized : Kept → List Change → Kept
resized kept group = record (followed kept group) { pages = pages_left kept.pages group }

-- no size that a group sets is past the greatest one
abbrev pub EndsInside : List Change → Type 0
EndsInside (set ∷ CutBlocks ino old_size new_size ∷ rest) = new_size ≤ size_limit
EndsInside group = Unit {0}

-- the group that sets the size of a file of a tree
pub record IsResizing (tree : Tree) (group : List Change) : Type 0 where
  pub ino : ℕ
  pub inode : Inode
  pub size : ℕ
  pub now : ℕ
  pub found : inode_at tree ino ≡ Some inode
  pub file : inode.kind ≡ File
  pub inside : size ≤ size_limit
  pub group_is : group ≡ truncating tree ino inode size now

-- what a new size asks for
abbrev pub size_need : Tree → ℕ → Inode → ℕ → ℕ → Need
size_need tree ino inode size now = truncation_need (truncating tree ino inode size now)

-- the same, by whether it is smaller
abbrev pub need_by : Bool → Need
need_by true = record { credits = 0; bytes = 160 + 56 + 4144; nodes = 3; class = Removal }
need_by false = record { credits = 0; bytes = 160; nodes = 1; class = Ordinary }

-- What a cut leaves of a new size: pages with the values of the files before, and then its group as a whole. It was reckoned on files that are alike, in which the last block may have other zeros at its end.
abbrev pub PutsSize : BackingState → BackingState → Kept → ℕ → Inode → ℕ → ℕ → GroupFate → Type 0
PutsSize old new kept ino inode size now fate = (seen : Files) × IsAlike (present old.tree kept) seen × PutsSeenWith old new kept (truncating seen.tree ino inode size now) fate
