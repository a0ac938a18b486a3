use Rattle.fs_model.proofs.Effects.{group_makes}
use Rattle.fs_model.proofs.law.groups_make_the_changes.Goals as goal

pub returns : goal.returns
returns c = group_makes
