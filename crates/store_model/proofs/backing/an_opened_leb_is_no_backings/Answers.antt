use Rattle.store_model.proofs.BackingCalls.{open_files, open_leaves}
use Rattle.store_model.proofs.backing.an_opened_leb_is_no_backings.Goals as goal

pub returns-clause-files : goal.returns-clause-files
returns-clause-files c = open_files

pub returns-clause-cut : goal.returns-clause-cut
returns-clause-cut c = open_leaves
