use Rattle.fs_model.specs.RecoveryLaws.{left_of_all, left_of_later}
use Rattle.fs_model.proofs.law.later_groups_stand_alone.Goals as goal

pub returns-clause-all : goal.returns-clause-all
returns-clause-all c = left_of_all

pub returns-clause-later : goal.returns-clause-later
returns-clause-later c = left_of_later
