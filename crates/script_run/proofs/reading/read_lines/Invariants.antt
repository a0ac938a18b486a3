use Rattle.std.proofs.Common.{◌≡◌}
use Rattle.std.specs.List.{AllByRecursion}
use Rattle.script_text.specs.Script.{IsInRange}
use Rattle.script_run.specs.Readers.{IsBackingClosed, reading_of}
use Rattle.script_run.specs.Reading.{IsReadRun, reading_on}
use Rattle.script_run.proofs.reading.read_lines.Given as goal

abbrev pub invariant-loop-part : goal.invariant-loop-part
invariant-loop-part l = record {
  closed : IsBackingClosed l.fn.cause l.reader.fs.backing l.reader.fs.kept;
  cause : l.reader.cause ≡ l.fn.cause;
  run : IsReadRun l.fn.cause (reading_on l.fn.tree) l.yielded l.text.items (reading_of l.reader);
  range : AllByRecursion IsInRange l.part-iterator.rest.items;
}
