use Rattle.vfs_ops.proofs.Asking.{same_group, same_need}
use Rattle.vfs_ops.proofs.laws.alike_files_ask_alike.Goals as goal

pub returns-clause-group : goal.returns-clause-group
returns-clause-group c = same_group

pub returns-clause-need : goal.returns-clause-need
returns-clause-need c = same_need
