use Rattle.vfs_ops.specs.FilesState.{present_in}
use Rattle.vfs_ops.proofs.Truncating.{few_asked}
use Rattle.vfs_ops.proofs.Weighing.{weighed_few}
use Rattle.vfs_ops.proofs.laws.a_call_adds_few_nodes.Goals as goal

pub returns : goal.returns
returns c old new caller now grant op outcome sound step = weighed_few old new caller now grant op outcome (few_asked (present_in old) caller now op sound) step.weighed
