use Rattle.std.proofs.Common.{length}
use Rattle.journal_scan.proofs.read.+gather.Given as goal

abbrev pub decreases-gather : goal.decreases-gather
decreases-gather l = length l.buds.now
