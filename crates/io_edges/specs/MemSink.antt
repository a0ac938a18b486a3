-- What a sink in memory shows: its text, and its calls.
use Rattle.std.specs.Prelude.{ℕ, List}
use Rattle.io_edges.specs.Counts.{Calls}
use Rattle.io_edges.specs.declared.mem_sink.MemSink.{MemSink}

-- the bytes written
abbrev pub text_of : MemSink → List ℕ
text_of sink = sink.text.items

-- its calls of write
abbrev pub calls_of : MemSink → Calls
calls_of sink = sink.calls

-- how many of its calls found no memory
abbrev pub shortages_of : MemSink → ℕ
shortages_of sink = sink.shortages
