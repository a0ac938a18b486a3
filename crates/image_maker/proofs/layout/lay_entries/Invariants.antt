use Rattle.std.specs.Prelude.{map}
use Rattle.ubifs_base.specs.RawOf.{raw_of}
use Rattle.ubi_volume.specs.MemVolume.{state_of}
use Rattle.image_maker.specs.Leaves.{entry_leaf}
use Rattle.image_maker.specs.Laying.{IsUnderWay}
use Rattle.image_maker.proofs.layout.lay_entries.Given as goal

abbrev pub invariant-laying : goal.invariant-laying
invariant-laying l = IsUnderWay (raw_of l.geometry) (map entry_leaf l.fn.rows) (map entry_leaf l.entry-iterator.rest.items) l.fn.open_leb (state_of l.fn.volume) l.open_leb (state_of l.volume)
