use Rattle.fs_laws.proofs.Makes.{symlink_keeps}
use Rattle.fs_laws.proofs.law.a_new_symbolic_link_keeps_trees_proper.Goals as goal

pub returns : goal.returns
returns c files caller now path target = symlink_keeps files now path target
