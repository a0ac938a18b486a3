use Rattle.fs_laws.proofs.Operations.{group_keeps}
use Rattle.fs_laws.proofs.law.an_operation_keeps_trees_proper.Goals as goal

pub returns : goal.returns
returns c files caller now op = group_keeps files caller now op
