use Rattle.vfs_ops.proofs.Replying.{answers}
use Rattle.vfs_ops.proofs.laws.a_plain_answer_is_no_refusal.Goals as goal

pub returns : goal.returns
returns c files caller now op reply after sound done = (answers files caller now op reply after sound done).plain
