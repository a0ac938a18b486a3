use Rattle.std.proofs.Common.{◌≡◌, drop, true}
use Rattle.script_text.proofs.Parts.{empty_behind}
use Rattle.script_text.proofs.words.has_empty_part.Given as goal

abbrev pub invariant-loop-byte : goal.invariant-loop-byte
invariant-loop-byte l = empty_behind l.empty (drop l.byte-index l.names) ≡ empty_behind true l.names
