use Rattle.buffered_files.proofs.Applied.{group_alike}
use Rattle.buffered_files.proofs.law.groups_leave_files_alike.Goals as goal

pub returns : goal.returns
returns c a b group first second names alike = group_alike group a b first second names alike
