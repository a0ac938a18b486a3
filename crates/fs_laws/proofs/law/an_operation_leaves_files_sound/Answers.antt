use Rattle.fs_laws.proofs.Operations.{outcome_sound}
use Rattle.fs_laws.proofs.law.an_operation_leaves_files_sound.Goals as goal

pub returns : goal.returns
returns c files caller now op = outcome_sound files caller now op
