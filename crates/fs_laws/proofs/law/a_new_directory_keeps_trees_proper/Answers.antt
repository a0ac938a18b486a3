use Rattle.fs_laws.proofs.Makes.{dir_made_keeps}
use Rattle.fs_laws.proofs.law.a_new_directory_keeps_trees_proper.Goals as goal

pub returns : goal.returns
returns c files caller now path mode = dir_made_keeps files now path mode
