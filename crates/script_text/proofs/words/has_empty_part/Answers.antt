use Rattle.std.proofs.Common.{arith}
use Rattle.script_text.proofs.Parts.{empty_last, empty_here}
use Rattle.script_text.proofs.words.has_empty_part.Goals as goal

pub returns-then-empty : goal.returns-then-empty
returns-then-empty c = empty_here c.args.names.now c.loop-byte.byte-index c.loop-byte.empty (omega arith) c.if-byte-eq47.true c.if-empty.true c.loop-byte.invariant

pub returns : goal.returns
returns c = empty_last c.args.names.now c.loop-byte.byte-index c.loop-byte.empty (omega arith) c.loop-byte.invariant
