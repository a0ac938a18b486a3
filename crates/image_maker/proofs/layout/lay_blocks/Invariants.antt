use Rattle.std.specs.Prelude.{◌==◌, filter, map}
use Rattle.ubifs_base.specs.RawOf.{raw_of}
use Rattle.ubi_volume.specs.MemVolume.{state_of}
use Rattle.image_maker.specs.Leaves.{block_leaf}
use Rattle.image_maker.specs.Laying.{IsUnderWay}
use Rattle.image_maker.proofs.layout.lay_blocks.Given as goal

abbrev pub invariant-laying : goal.invariant-laying
invariant-laying l = IsUnderWay (raw_of l.geometry) (map block_leaf (filter (λ stored. stored.0.0 == l.ino) l.tree.blocks)) (map block_leaf l.rest) l.fn.open_leb (state_of l.fn.volume) l.open_leb (state_of l.volume)
