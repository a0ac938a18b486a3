use Rattle.script_run.proofs.phase.serve_in_turn.Goals as goal

pub returns-clause-session : goal.returns-clause-session
returns-clause-session c = c.in_ok-serve_lines.ensures.session

pub returns-clause-served : goal.returns-clause-served
returns-clause-served c = c.in_ok-serve_lines.ensures.served

pub returns-clause-mounted : goal.returns-clause-mounted
returns-clause-mounted c = c.in_ok-serve_lines.ensures.mounted

pub returns-clause-few : goal.returns-clause-few
returns-clause-few c = c.in_ok-serve_lines.ensures.few
