-- The words so far and those to come are all words.
use Rattle.std.proofs.Common.{◌≡◌, ◌++◌, drop, map}
use Rattle.text_lines.specs.Lines.{spaced}
use Rattle.script_text.specs.Reply.{row_word, rows_words}
use Rattle.script_text.proofs.listing.push_rows.Given as goal

abbrev pub invariant-loop-entry : goal.invariant-loop-entry
invariant-loop-entry l = l.line.items ++ spaced (map row_word (drop l.entry-index l.rows)) ≡ l.fn.line.items ++ spaced (rows_words l.rows)
