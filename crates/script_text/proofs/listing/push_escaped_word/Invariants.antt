-- The bytes so far and those to come are all bytes.
use Rattle.std.proofs.Common.{◌≡◌, ◌++◌, ◌∷◌, drop}
use Rattle.script_text.specs.Reply.{escaped}
use Rattle.script_text.proofs.listing.push_escaped_word.Given as goal

abbrev pub invariant-loop-byte : goal.invariant-loop-byte
invariant-loop-byte l = l.line.items ++ escaped (drop l.byte-index l.bytes) ≡ l.fn.line.items ++ (32 ∷ escaped l.bytes)
