-- The directories are computed.
use Rattle.std.proofs.Common.{refl}
use Rattle.fs_model.proofs.worked.directories_are_counted.Goals as goal

pub returns-clause-replies : goal.returns-clause-replies
returns-clause-replies c = refl

pub returns-clause-moves : goal.returns-clause-moves
returns-clause-moves c = refl

pub returns-clause-changes : goal.returns-clause-changes
returns-clause-changes c = refl
