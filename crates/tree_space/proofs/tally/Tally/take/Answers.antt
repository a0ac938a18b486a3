use Rattle.std.proofs.Common.{refl, arith}
use Rattle.ubifs_base.specs.RawOf.{raw_of}
use Rattle.tree_space.proofs.CountedLeaves.{counts_fit, counts_over}
use Rattle.tree_space.proofs.tally.Tally.take.Goals as goal

pub returns-then-len-left : goal.returns-then-len-left
returns-then-len-left c = λ leaf long. counts_fit (raw_of c.args.geometry.now) leaf c.args.len _ _ long refl refl refl (omega arith)

pub returns-else-len-left : goal.returns-else-len-left
returns-else-len-left c = λ leaf long. counts_over (raw_of c.args.geometry.now) leaf c.args.len _ _ long refl refl refl (omega arith)
