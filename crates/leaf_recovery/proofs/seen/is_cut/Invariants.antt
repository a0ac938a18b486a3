use Rattle.std.proofs.Common.{◌≡◌, drop}
use Rattle.leaf_recovery.specs.Seen.{cut_seen}
use Rattle.leaf_recovery.proofs.seen.is_cut.Given as goal

abbrev pub invariant-loop-cut : goal.invariant-loop-cut
invariant-loop-cut l = cut_seen (drop l.cut-index l.cuts) l.ino l.block ≡ cut_seen l.cuts l.ino l.block
