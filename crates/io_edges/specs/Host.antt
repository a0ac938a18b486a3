-- What the edges to the host show: how often they failed.
use Rattle.std.specs.Prelude.{ℕ}
use Rattle.io_edges.specs.declared.file_keeper.FileKeeper.{FileKeeper}
use Rattle.io_edges.specs.declared.out_sink.OutSink.{OutSink}

-- how many calls of a keeper of the host's files have failed
abbrev pub keeper_faults : {R : Type 0} → FileKeeper R → ℕ
keeper_faults keeper = keeper.faults

-- how many calls of a sink to the standard output have failed
abbrev pub sink_faults : {R : Type 0} → OutSink R → ℕ
sink_faults sink = sink.faults
