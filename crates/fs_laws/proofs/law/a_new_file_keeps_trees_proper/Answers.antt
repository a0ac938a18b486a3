use Rattle.fs_laws.proofs.Makes.{created_keeps}
use Rattle.fs_laws.proofs.law.a_new_file_keeps_trees_proper.Goals as goal

pub returns : goal.returns
returns c files caller now path mode = created_keeps files now path mode
