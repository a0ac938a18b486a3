use Rattle.store_model.proofs.BackingEnds.{end_files, end_is}
use Rattle.store_model.proofs.BegunCommits.{end_leaves}
use Rattle.store_model.proofs.backing.a_commits_end_is_a_backings.Goals as goal

pub returns-clause-ended : goal.returns-clause-ended
returns-clause-ended c = end_is

pub returns-clause-files : goal.returns-clause-files
returns-clause-files c = end_files

pub returns-clause-cut : goal.returns-clause-cut
returns-clause-cut c = end_leaves
