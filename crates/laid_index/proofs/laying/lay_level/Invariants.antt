use Rattle.std.proofs.Common.{◌+◌, length}
use Rattle.ubifs_base.specs.RawOf.{raw_of}
use Rattle.laid_index.specs.Opened.{taken_after}
use Rattle.laid_index.specs.Packing.{level_lens}
use Rattle.laid_index.proofs.Answering.{IsWell}
use Rattle.laid_index.proofs.Levels.{IsLevelUnderWay}
use Rattle.laid_index.proofs.laying.lay_level.Given as goal

abbrev pub invariant-laying : goal.invariant-laying
invariant-laying g l =
    IsLevelUnderWay (raw_of l.geometry) l.level l.siblings l.made.items l.rest l.fn.leb (g.V.Volume.state l.fn.volume).holds l.leb (g.V.Volume.state l.volume).holds
    × IsWell l.fn.leb.first (l.fn.leb.first + length (taken_after (raw_of l.geometry) l.fn.leb (level_lens l.geometry.fanout (length l.siblings)))) (g.V.Volume.state l.fn.volume) (g.V.Volume.state l.volume)

abbrev pub decreases-laying : goal.decreases-laying
decreases-laying g l = length l.rest
