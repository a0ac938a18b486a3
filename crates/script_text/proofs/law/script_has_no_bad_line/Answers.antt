use Rattle.std.proofs.Common.{arith, false, length}
use Rattle.script_text.proofs.ScriptLaws.{script_no_bad}
use Rattle.script_text.proofs.law.script_has_no_bad_line.Goals as goal

pub returns : goal.returns
returns c = λ text parts number h bad.
    script_no_bad parts bad.0 false h.order.0 bad.1 0 (length bad.0) text h.lines.0 bad.2 bad.3 number h.order.1 h.lines.1 h.lines.2 (omega (arith, h.few)) bad.6 bad.4 bad.5 (omega arith) bad.7
