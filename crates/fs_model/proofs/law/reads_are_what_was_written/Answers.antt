use Rattle.fs_model.proofs.Keeps.{read_back}
use Rattle.fs_model.proofs.law.reads_are_what_was_written.Goals as goal

pub returns : goal.returns
returns c = read_back
