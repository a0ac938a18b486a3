use Rattle.script_text.proofs.ScriptLines.{lines_in_range}
use Rattle.script_text.proofs.law.parts_are_in_range.Goals as goal

pub returns : goal.returns
returns c = λ text parts h. lines_in_range parts h.lines.0 h.lines.1
