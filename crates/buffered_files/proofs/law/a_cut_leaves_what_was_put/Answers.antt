use Rattle.buffered_files.specs.CutLaws.{Puts-all, Puts-refused}
use Rattle.buffered_files.specs.Cuts.{ValuesOf, ValuesWith}
use Rattle.buffered_files.proofs.CutValues.{cut_has_values}
use Rattle.buffered_files.proofs.law.a_cut_leaves_what_was_put.Goals as goal

pub returns-clause-all : goal.returns-clause-all
returns-clause-all c old new tree left files group fate told puts may = cut_has_values old new tree (ValuesWith files group) told (Puts-all files group fate old new puts) left may

pub returns-clause-not_put : goal.returns-clause-not_put
returns-clause-not_put c old new tree left files group told puts may = cut_has_values old new tree (ValuesOf files) told (Puts-refused files group old new puts) left may
