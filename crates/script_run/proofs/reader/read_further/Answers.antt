use Rattle.script_run.proofs.reader.read_further.Goals as goal

pub returns-clause-closed : goal.returns-clause-closed
returns-clause-closed c = c.in_ok-read_part.ensures.closed

pub returns-clause-part : goal.returns-clause-part
returns-clause-part c = c.in_ok-read_part.ensures.part
