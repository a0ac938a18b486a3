use Rattle.fs_laws.proofs.Chmod.{mode_keeps}
use Rattle.fs_laws.proofs.law.a_new_mode_keeps_trees_proper.Goals as goal

pub returns : goal.returns
returns c files caller now path mode = mode_keeps files now path mode
