use Rattle.fs_laws.proofs.Removals.{unlinked_keeps}
use Rattle.fs_laws.proofs.law.a_removed_name_keeps_trees_proper.Goals as goal

pub returns : goal.returns
returns c files caller now path = unlinked_keeps files now path
