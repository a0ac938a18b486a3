use Rattle.fs_laws.proofs.Mounts.{mount_proper}
use Rattle.fs_laws.proofs.law.a_mount_keeps_trees_proper.Goals as goal

pub returns : goal.returns
returns c tree = mount_proper tree
