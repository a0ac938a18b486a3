-- What is stored under the files that callers see.
use Rattle.std.specs.Prelude.{◌≡◌, Bool, false, not}
use Rattle.fs_model.specs.declared.reply.Reply.{Reply}
use Rattle.fs_model.specs.declared.reply.Reply.TheVariants.{Refused}
use Rattle.fs_model.specs.Files.{Files, Tree}
use Rattle.buffered_files.specs.declared.kept.Kept.{Kept}
use Rattle.buffered_files.specs.Present.{IsKept, present}
use Rattle.vfs_ops.specs.Kinds.{is_late}

-- The files are this tree under what is kept of them in memory: dirty pages, the inodes of their files, and which files are open.
pub record IsUnder (stored : Tree) (files : Files) : Type 0 where
  pub kept : Kept
  pub fits : IsKept stored kept
  pub seen : present stored kept ≡ files

-- whether it is a refusal that comes before anything is put
abbrev pub is_early : Reply → Bool
is_early (Refused refusal) = not (is_late refusal)
is_early reply = false
