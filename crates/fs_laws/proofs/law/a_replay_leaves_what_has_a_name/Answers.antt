use Rattle.fs_laws.specs.Forgotten.{dropped_forgotten, forgotten_twice, group_forgotten}
use Rattle.fs_laws.proofs.law.a_replay_leaves_what_has_a_name.Goals as goal

pub returns-clause-group : goal.returns-clause-group
returns-clause-group c tree group = group_forgotten group tree

pub returns-clause-dropped : goal.returns-clause-dropped
returns-clause-dropped c = dropped_forgotten

pub returns-clause-twice : goal.returns-clause-twice
returns-clause-twice c = forgotten_twice
