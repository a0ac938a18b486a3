use Rattle.fs_laws.proofs.Alike.{as_many_nameless, group_fits_alike, orphans_alike}
use Rattle.fs_laws.proofs.law.groups_fit_trees_built_alike.Goals as goal

pub returns-clause-fits : goal.returns-clause-fits
returns-clause-fits c a b grant group = group_fits_alike a b grant group

pub returns-clause-orphans : goal.returns-clause-orphans
returns-clause-orphans c = orphans_alike

pub returns-clause-nameless : goal.returns-clause-nameless
returns-clause-nameless c = as_many_nameless
