use Rattle.store_model.proofs.BackingStarts.{start_files, start_is, start_leaves}
use Rattle.store_model.proofs.backing.a_commits_start_is_a_backings.Goals as goal

pub returns-clause-started : goal.returns-clause-started
returns-clause-started c = λ m taken outside can. start_is m taken outside can

pub returns-clause-files : goal.returns-clause-files
returns-clause-files c = start_files

pub returns-clause-cut : goal.returns-clause-cut
returns-clause-cut c = start_leaves
