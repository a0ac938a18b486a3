use Rattle.script_run.proofs.lines.turn.Goals as goal

pub returns-clause-session : goal.returns-clause-session
returns-clause-session g c = c.in_ok-session.ensures.session

pub returns-clause-turn : goal.returns-clause-turn
returns-clause-turn g c = c.in_ok-session.ensures.turn

pub returns-clause-few : goal.returns-clause-few
returns-clause-few g c = c.in_ok-session.ensures.few
