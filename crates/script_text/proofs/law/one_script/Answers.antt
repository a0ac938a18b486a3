use Rattle.std.proofs.Common.{false}
use Rattle.script_text.proofs.ScriptLaws.{script_once}
use Rattle.script_text.proofs.law.one_script.Goals as goal

pub returns : goal.returns
returns c = λ text these those h k. script_once these those false h.order.0 k.order.0 text h.lines.0 k.lines.0 h.order.1 h.lines.1 h.lines.2 k.order.1 k.lines.1 k.lines.2
