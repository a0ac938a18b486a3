use Rattle.std.proofs.Common.{◌≡◌, ◌+◌, length}
use Rattle.script_text.proofs.MadeLines.{ReadsMade}
use Rattle.script_text.proofs.listed.list_lines.Given as goal

abbrev pub invariant-loop-before : goal.invariant-loop-before
invariant-loop-before l = record {
  text : ReadsMade l.text l.lines.items l.rest;
  count : length l.lines.items + 1 ≡ l.before;
}
