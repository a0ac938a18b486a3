use Rattle.script_run.specs.Readers.{reading_of}
use Rattle.script_run.proofs.reading.read_text.Goals as goal

pub read_lines-requires-clause-empty : goal.read_lines-requires-clause-empty
read_lines-requires-clause-empty c = c.new-text.ensures.items

pub returns : goal.returns
returns c = record { last = reading_of c.in_ok-_reader._reader; lines = c.in_ok-_reader.ensures }
