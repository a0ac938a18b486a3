use Rattle.std.proofs.Common.{arith, false, length}
use Rattle.script_text.proofs.ScriptLaws.{bad_once}
use Rattle.script_text.proofs.law.one_bad_line.Goals as goal

pub returns : goal.returns
returns c = λ text this that a b.
    bad_once a.0 b.0 false a.1 b.1 0 (length a.0) (length b.0) text a.2 b.2 a.3 b.3 this that a.6 a.4 a.5 (omega arith) a.7 b.6 b.4 b.5 (omega arith) b.7
