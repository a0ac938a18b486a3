use Rattle.store_model.proofs.RecoveryListed.{all_listed}
use Rattle.store_model.proofs.RecoverySafe.{fits_leaves, none_lost}
use Rattle.store_model.proofs.recovery.what_fits_loses_no_leaf.Goals as goal

pub returns-clause-read : goal.returns-clause-read
returns-clause-read c = fits_leaves

pub returns-clause-safe : goal.returns-clause-safe
returns-clause-safe c = none_lost c.the_last_change_wins.ensures.sorted c.what_makes_obsolete_touches.ensures

pub returns-clause-listed : goal.returns-clause-listed
returns-clause-listed c = all_listed c.the_last_change_wins.ensures.sorted c.the_last_change_wins.ensures.inode
