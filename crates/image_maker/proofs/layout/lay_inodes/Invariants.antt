use Rattle.std.specs.List.{flat_map}
use Rattle.ubifs_base.specs.RawOf.{raw_of}
use Rattle.ubi_volume.specs.MemVolume.{state_of}
use Rattle.image_maker.specs.Leaves.{leaf_nodes_of, live_leaves}
use Rattle.image_maker.specs.Laying.{IsUnderWay, HavePlainModes}
use Rattle.image_maker.proofs.layout.lay_inodes.Given as goal

abbrev pub invariant-laying : goal.invariant-laying
invariant-laying l = IsUnderWay (raw_of l.geometry) (live_leaves l.tree) (flat_map (leaf_nodes_of l.tree) l.rest) l.fn.open_leb (state_of l.fn.volume) l.open_leb (state_of l.volume) × HavePlainModes l.rest
