use Rattle.fs_laws.proofs.Overs.{renamed_keeps}
use Rattle.fs_laws.proofs.law.a_moved_name_keeps_trees_proper.Goals as goal

pub returns : goal.returns
returns c files caller now old new = renamed_keeps files now old new
