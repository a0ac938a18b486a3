use Rattle.std.proofs.Common.{refl}
use Rattle.script_run.proofs.lines.waiting.Goals as goal

pub returns-clause-session : goal.returns-clause-session
returns-clause-session c = refl

pub returns-clause-lines : goal.returns-clause-lines
returns-clause-lines c = c.in_ok-push_line.ensures
