use Rattle.std.proofs.Common.{refl}
use Rattle.store_model.proofs.Syncs.{all_synced, synced_numbers}
use Rattle.store_model.specs.Events.{after, Sync}
use Rattle.store_model.proofs.Views.{same_views}
use Rattle.store_model.proofs.law.a_sync_keeps_the_files.Goals as goal

pub returns-clause-synced : goal.returns-clause-synced
returns-clause-synced c = λ m. record { counts = refl; none_held = refl; orphans = all_synced m.orphans }

pub returns-clause-numbers : goal.returns-clause-numbers
returns-clause-numbers c = synced_numbers

pub returns-clause-views : goal.returns-clause-views
returns-clause-views c = λ m has. same_views m (after Sync m) refl refl has
