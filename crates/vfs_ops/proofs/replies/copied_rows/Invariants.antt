use Rattle.std.proofs.Common.{◌≡◌, take}
use Rattle.vfs_ops.proofs.replies.copied_rows.Given as goal

abbrev pub invariant-loop-entry : goal.invariant-loop-entry
invariant-loop-entry l = l.items.items ≡ take l.entry-index l.rows
