-- The groups and the tests of the trees are computed.
use Rattle.std.proofs.Common.{refl}
use Rattle.fs_model.proofs.worked.groups_and_trees_are_told.Goals as goal

pub returns-clause-group : goal.returns-clause-group
returns-clause-group c = refl

pub returns-clause-need : goal.returns-clause-need
returns-clause-need c = refl

pub returns-clause-removal : goal.returns-clause-removal
returns-clause-removal c = refl

pub returns-clause-proper : goal.returns-clause-proper
returns-clause-proper c = record { inodes_ascend = refl; blocks_ascend = refl; entries_ascend = refl; inode_nodes = refl; block_nodes = refl; entry_nodes = refl; root = refl; entries = refl; inodes = refl; linked = refl; numbers = refl }

pub returns-clause-orphaned : goal.returns-clause-orphaned
returns-clause-orphaned c = record { inodes_ascend = refl; blocks_ascend = refl; entries_ascend = refl; inode_nodes = refl; block_nodes = refl; entry_nodes = refl; root = refl; entries = refl; inodes = refl; linked = refl; numbers = refl }

pub returns-clause-unlinked : goal.returns-clause-unlinked
returns-clause-unlinked c = refl
