use Rattle.store_model.proofs.PutProper.{block_keeps, inode_keeps, put_proper}
use Rattle.store_model.proofs.law.a_put_leaves_a_proper_tree.Goals as goal

pub returns-clause-tree : goal.returns-clause-tree
returns-clause-tree c = λ m p can h. put_proper m p can.parts h

pub returns-clause-group : goal.returns-clause-group
returns-clause-group c = λ tree grant group fits. record { are_nodes = fits.are_nodes; revives_none = fits.revives_none; drops = fits.drops; proper = fits.proper }

pub returns-clause-inode : goal.returns-clause-inode
returns-clause-inode c = inode_keeps c.trees_built_alike_are_proper.ensures.proper

pub returns-clause-block : goal.returns-clause-block
returns-clause-block c = block_keeps
