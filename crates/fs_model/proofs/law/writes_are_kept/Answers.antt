use Rattle.fs_model.proofs.Keeps.{kept}
use Rattle.fs_model.proofs.law.writes_are_kept.Goals as goal

pub returns : goal.returns
returns c = kept
