use Rattle.fs_laws.proofs.Removals.{dir_removed_keeps}
use Rattle.fs_laws.proofs.law.a_removed_directory_keeps_trees_proper.Goals as goal

pub returns : goal.returns
returns c files caller now path = dir_removed_keeps files now path
