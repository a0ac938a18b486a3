use Rattle.fs_laws.proofs.Alike.{proper_alike, files_alike}
use Rattle.fs_laws.proofs.law.trees_built_alike_are_proper.Goals as goal

pub returns-clause-proper : goal.returns-clause-proper
returns-clause-proper c a b = proper_alike a b

pub returns-clause-handles : goal.returns-clause-handles
returns-clause-handles c a b handles = files_alike a b handles
