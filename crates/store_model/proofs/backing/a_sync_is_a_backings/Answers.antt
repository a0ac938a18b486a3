use Rattle.store_model.proofs.BackingCalls.{sync_commit, sync_files, sync_leaves, sync_synced}
use Rattle.store_model.proofs.backing.a_sync_is_a_backings.Goals as goal

pub returns-clause-synced : goal.returns-clause-synced
returns-clause-synced c = sync_synced

pub returns-clause-files : goal.returns-clause-files
returns-clause-files c = sync_files

pub returns-clause-commit : goal.returns-clause-commit
returns-clause-commit c = sync_commit

pub returns-clause-cut : goal.returns-clause-cut
returns-clause-cut c = sync_leaves
