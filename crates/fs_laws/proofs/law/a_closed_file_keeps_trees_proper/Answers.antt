use Rattle.fs_laws.proofs.Closes.{closed_sound}
use Rattle.fs_laws.proofs.law.a_closed_file_keeps_trees_proper.Goals as goal

pub returns : goal.returns
returns c files caller now slot = closed_sound files caller slot
