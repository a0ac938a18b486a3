-- What `Fs` shows.
use Rattle.fs_model.specs.declared.backing.Backing.{Ghosts}
use Rattle.vfs_ops.specs.declared.fs.Fs.{Fs}
use Rattle.vfs_ops.specs.FilesState.{FilesState}

module _ {B : Type 0} {g : Ghosts B} where
  -- files over a backing as contracts see them
  abbrev pub files_state : Fs B g → FilesState
  files_state fs = record { backing = g.state fs.backing; kept = fs.kept; refused = fs.refused.items }
