use Rattle.std.proofs.Common.{take}
use Rattle.script_text.specs.Words.{Lacks}
use Rattle.script_text.proofs.cut.place_of.Given as goal

abbrev pub invariant-loop-i : goal.invariant-loop-i
invariant-loop-i l = Lacks l.byte (take l.i l.bytes)
