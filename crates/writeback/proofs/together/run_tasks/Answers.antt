use denote.Param.Send.{sendable}
use Rattle.writeback.proofs.Sent.{task_send}
use Rattle.writeback.proofs.together.run_tasks.Goals as goal

pub for_each_mut-requires-send-T : goal.for_each_mut-requires-send-T
for_each_mut-requires-send-T g c κs within = search (sendable, task_send) depth 12
