-- Files over a backing as contracts see them.
use Rattle.std.specs.Prelude.{◌≡◌, ℕ, List, []}
use Rattle.fs_model.specs.declared.refusal.NoSpace.{NoSpace}
use Rattle.fs_model.specs.Backing.{BackingState}
use Rattle.fs_model.specs.Files.{Files}
use Rattle.buffered_files.specs.declared.kept.Kept.{Kept}
use Rattle.buffered_files.specs.Present.{present}

-- the backing's state, what is kept in memory in front of it, and the sides of each refusal for want of room so far
pub record FilesState : Type 0 where
  pub backing : BackingState
  pub kept : Kept
  pub refused : List NoSpace

-- the files as callers see them
abbrev pub present_in : FilesState → Files
present_in state = present state.backing.tree state.kept

-- No page and no inode is kept, so many clean pages may be, no file is open, and nothing was refused for want of room.
pub record IsOpened (state : FilesState) (room : ℕ) : Type 0 where
  pub dirty : state.kept.pages.dirty ≡ []
  pub clean : state.kept.pages.clean ≡ []
  pub most : state.kept.pages.most ≡ room
  pub calls : state.kept.pages.calls ≡ 0
  pub inodes : state.kept.inodes ≡ []
  pub handles : state.kept.handles ≡ []
  pub refused : state.refused ≡ []

-- all but the backing is as it was
abbrev pub LeavesKept : FilesState → FilesState → Type 0
LeavesKept old new = new ≡ record old { backing = new.backing }
