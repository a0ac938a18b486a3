use Rattle.vfs_ops.proofs.Answering.{alike_outcomes}
use Rattle.vfs_ops.proofs.laws.alike_files_answer_alike.Goals as goal

pub returns : goal.returns
returns c a b caller now op sound proper alike =
    alike_outcomes a b caller now op (record { groups = c.groups_leave_files_alike.ensures; writes = c.written_files_stay_alike.ensures; sizes = c.resized_files_stay_alike.ensures }) sound proper alike
