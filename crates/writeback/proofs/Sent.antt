-- What may go to another thread.
use denote.RattleType.{RattleType}
use denote.Param.Send.{IsSend, owning_send, sendable}
use Rattle.std.below.std_heap.proofs.GlobalAllocator.TheSendSync.{the_frees as heap_frees}
use Rattle.std.proofs.alloc.Global.TheSendSync.{the_send as heap_send}
use Rattle.std.proofs.vec.Vec.TheSendSync.{the_send as vec_send}
use Rattle.credit_pool.proofs.seat.Seat.TheSendSync.{the_send as seat_send}
use Rattle.credited_files.specs.contracts.stock.Stock.{the_row as stock_row}
use Rattle.fs_model.proofs.op.Op.TheSendSync.{the_send as op_send}
use Rattle.told_value.specs.contracts.told.Told.{the_row, the_type}
use Rattle.trace_word.proofs.pass.Pass.TheSendSync.{the_send as ticket_send}
use Rattle.traced_files.specs.contracts.pass.Pass.{the_row as pass_row}
use Rattle.writeback.specs.contracts.job.Job.{the_row as job_row}
use Rattle.writeback.specs.contracts.together.Task.{the_row as task_row}

-- a told value owns nothing
pub told_send : (S : RattleType) → IsSend (the_row S)
told_send S = owning_send (the_type S) (search sendable, tt) (λ d. tt) (λ k x w. tt)

pub stock_send : IsSend stock_row
stock_send = search (sendable, told_send, seat_send) depth 40 fits 4000

pub pass_send : IsSend pass_row
pass_send = search (sendable, stock_send, ticket_send) depth 40 fits 4000

pub job_send : IsSend job_row
job_send = search (sendable, pass_send, op_send, vec_send, heap_send, heap_frees) depth 40 fits 4000

pub task_send : IsSend task_row
task_send = search (sendable, job_send, pass_send) depth 40 fits 4000
