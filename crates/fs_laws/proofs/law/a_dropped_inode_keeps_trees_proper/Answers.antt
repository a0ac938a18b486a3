use Rattle.fs_laws.proofs.Mounts.{nameless_dropped}
use Rattle.fs_laws.proofs.law.a_dropped_inode_keeps_trees_proper.Goals as goal

pub returns : goal.returns
returns c = nameless_dropped
