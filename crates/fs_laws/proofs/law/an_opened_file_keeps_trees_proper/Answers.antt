use Rattle.fs_laws.proofs.Closes.{opened_sound}
use Rattle.fs_laws.proofs.law.an_opened_file_keeps_trees_proper.Goals as goal

pub returns : goal.returns
returns c files caller now path slot = opened_sound files caller path slot
