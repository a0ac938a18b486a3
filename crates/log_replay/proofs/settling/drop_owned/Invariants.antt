use Rattle.std.proofs.Common.{◌≡◌, List, map, length}
use Rattle.leaf_map.specs.Kept.{Placed}
use Rattle.leaf_map.specs.Parts.{Committed, Parts}
use Rattle.log_replay.specs.Settling.{CanSettle, HasCopies, leaf_read_of, spare_of}
use Rattle.log_replay.proofs.Settles.{Dropping}
use Rattle.log_replay.proofs.settling.drop_owned.Given as goal

abbrev pub invariant-dropping : goal.invariant-dropping
invariant-dropping l = (parts : Parts) (committed : List Committed) (left : List Placed) → CanSettle parts committed left → l.fn.reads ≡ map (leaf_read_of parts) committed → HasCopies left l.fn.ranked
    → Dropping parts (spare_of parts committed left) l.left l.ranked

abbrev pub decreases-dropping : goal.decreases-dropping
decreases-dropping l = length l.left
