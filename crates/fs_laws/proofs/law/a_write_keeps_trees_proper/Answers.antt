use Rattle.fs_laws.proofs.Writes.{bytes_written_sound}
use Rattle.fs_laws.proofs.law.a_write_keeps_trees_proper.Goals as goal

pub returns : goal.returns
returns c files caller now slot offs len byte = bytes_written_sound files caller now slot offs len byte
