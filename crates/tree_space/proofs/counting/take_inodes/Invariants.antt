use Rattle.std.specs.List.{flat_map}
use Rattle.ubifs_base.specs.RawOf.{raw_of}
use Rattle.image_maker.specs.Leaves.{leaf_nodes_of, live_leaves}
use Rattle.tree_space.proofs.CountedLeaves.{IsCounting}
use Rattle.tree_space.proofs.counting.take_inodes.Given as goal

abbrev pub invariant-counting : goal.invariant-counting
invariant-counting l = IsCounting (raw_of l.geometry) (live_leaves l.tree) (flat_map (leaf_nodes_of l.tree) l.rest) l.fn.tally l.tally
