use Rattle.fs_laws.proofs.Truncates.{truncated_keeps}
use Rattle.fs_laws.proofs.law.a_new_size_keeps_trees_proper.Goals as goal

pub returns : goal.returns
returns c files caller now slot size sound moment = (truncated_keeps files caller now slot size sound moment).keeps
