use Rattle.std.proofs.Common.{◌≡◌, List, map}
use Rattle.leaf_map.specs.Kept.{Placed}
use Rattle.leaf_map.specs.Parts.{Committed, Parts}
use Rattle.log_replay.specs.Settling.{CanSettle, HasCopies, leaf_read_of, settled_of}
use Rattle.log_replay.proofs.Settles.{Settling}
use Rattle.log_replay.proofs.settling.settle.Given as goal

abbrev pub invariant-loop-read : goal.invariant-loop-read
invariant-loop-read l = (parts : Parts) (committed : List Committed) (left : List Placed) → CanSettle parts committed left → l.fn.reads.items ≡ map (leaf_read_of parts) committed → HasCopies left l.fn.ranked
    → Settling parts (settled_of parts left committed) l.settled.items l.read-iterator.rest.items l.ranked
