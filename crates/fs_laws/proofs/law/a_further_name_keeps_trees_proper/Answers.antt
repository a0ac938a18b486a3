use Rattle.fs_laws.proofs.Linking.{linked_keeps}
use Rattle.fs_laws.proofs.law.a_further_name_keeps_trees_proper.Goals as goal

pub returns : goal.returns
returns c files caller now old new = linked_keeps files now old new
