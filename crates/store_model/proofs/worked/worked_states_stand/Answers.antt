use Rattle.store_model.proofs.WorkedStates.{collected_stands, ended_stands, half_stands, long_stands, offered_stands, put_stands}
use Rattle.store_model.proofs.worked.worked_states_stand.Goals as goal

pub returns-clause-put : goal.returns-clause-put
returns-clause-put c = put_stands

pub returns-clause-offered : goal.returns-clause-offered
returns-clause-offered c = offered_stands

pub returns-clause-ended : goal.returns-clause-ended
returns-clause-ended c = ended_stands

pub returns-clause-half : goal.returns-clause-half
returns-clause-half c = half_stands

pub returns-clause-collected : goal.returns-clause-collected
returns-clause-collected c = collected_stands

pub returns-clause-long : goal.returns-clause-long
returns-clause-long c = long_stands
