use Rattle.vfs_ops.proofs.Replying.{answers}
use Rattle.vfs_ops.proofs.laws.a_reply_with_bytes_leaves_the_files.Goals as goal

pub returns : goal.returns
returns c files caller now op reply after sound done = (answers files caller now op reply after sound done).bytes
