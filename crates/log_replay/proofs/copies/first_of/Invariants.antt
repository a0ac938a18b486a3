use Rattle.std.proofs.Common.{◌≡◌, drop}
use Rattle.log_replay.specs.Copies.{copy_place}
use Rattle.log_replay.proofs.copies.first_of.Given as goal

abbrev pub invariant-loop-copy : goal.invariant-loop-copy
invariant-loop-copy l = copy_place l.node (drop l.copy-index l.copies) ≡ copy_place l.node l.copies
