-- What each operation answers and leaves, with its refusals in order: those of the call's own words first, then a component that is too long, and then those of names, each in the order in which its definition has them.
use Rattle.std.specs.Prelude.{ℕ, Ok, List, []}
use Rattle.fs_model.specs.declared.change.Change.{Change}
use Rattle.fs_model.specs.declared.op.Op.{Op}
use Rattle.fs_model.specs.declared.op.Op.TheVariants.{Create, Mkdir, Symlink, Link, Unlink, Rmdir, Rename, OpenFile, Close, Read, Write, Truncate, Fsync, Flush, List as ListDir, Stat, Readlink, Chmod}
use Rattle.fs_model.specs.declared.reply.Reply.TheVariants.{Done}
use Rattle.fs_model.specs.Attributes.{listed, told, link_read, mode_set}
use Rattle.fs_model.specs.Files.{Files}
use Rattle.fs_model.specs.Handles.{opened, closed, bytes_read, bytes_written, synced}
use Rattle.fs_model.specs.Links.{linked, unlinked, dir_removed}
use Rattle.fs_model.specs.Making.{created, dir_made, symlink_made}
use Rattle.fs_model.specs.Outcome.{Plan, done_by, group_in}
use Rattle.fs_model.specs.Rename.{renamed}
use Rattle.fs_model.specs.Truncation.{truncated}
pub use Rattle.fs_model.specs.Outcome.{Outcome, reply_in, files_in}

-- the plan of an operation whose changes are one group; the others have none
abbrev pub plan_of : Files → ℕ → ℕ → Op → Plan
plan_of files caller now (Create path mode) = created files now path mode
plan_of files caller now (Mkdir path mode) = dir_made files now path mode
plan_of files caller now (Symlink path target) = symlink_made files now path target
plan_of files caller now (Link old new) = linked files now old new
plan_of files caller now (Unlink path) = unlinked files now path
plan_of files caller now (Rmdir path) = dir_removed files now path
plan_of files caller now (Rename old new) = renamed files now old new
plan_of files caller now (Truncate slot size) = truncated files caller now slot size
plan_of files caller now (Chmod path mode) = mode_set files now path mode
plan_of files caller now op = Ok (Done, [])

-- the group that an operation puts; where it is refused it puts none
abbrev pub group_of : Files → ℕ → ℕ → Op → List Change
group_of files caller now op = group_in (plan_of files caller now op)

-- what a caller's operation answers at this moment and what it leaves, or why it is refused
abbrev pub outcome_of : Files → ℕ → ℕ → Op → Outcome
outcome_of files caller now (OpenFile path slot) = opened files caller path slot
outcome_of files caller now (Close slot) = closed files caller slot
outcome_of files caller now (Read slot offs len) = bytes_read files caller slot offs len
outcome_of files caller now (Write slot offs len byte) = bytes_written files caller now slot offs len byte
outcome_of files caller now (Fsync slot) = synced files caller slot
outcome_of files caller now Flush = Ok (Done, files)
outcome_of files caller now (ListDir path) = listed files path
outcome_of files caller now (Stat path) = told files path
outcome_of files caller now (Readlink path) = link_read files path
outcome_of files caller now op = done_by files (plan_of files caller now op)
