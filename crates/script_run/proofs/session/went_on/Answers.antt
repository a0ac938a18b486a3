use Rattle.script_run.proofs.session.went_on.Goals as goal

pub returns-clause-session : goal.returns-clause-session
returns-clause-session c = c.in_ok-go_on.ensures.session

pub returns-clause-part : goal.returns-clause-part
returns-clause-part c = c.in_ok-go_on.ensures.part

pub returns-clause-few : goal.returns-clause-few
returns-clause-few c = c.in_ok-go_on.ensures.few
