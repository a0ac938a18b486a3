use Rattle.script_run.proofs.Heavier.{has_room, run_grown}
use Rattle.script_run.proofs.law.what_has_room_is_not_refused_for_want_of_it.Goals as goal

pub returns-clause-weight : goal.returns-clause-weight
returns-clause-weight c = λ geo first last parts text run. (run_grown geo first last parts text run).weight

pub returns-clause-room : goal.returns-clause-room
returns-clause-room c = λ geo first last parts text need sides run room none. has_room geo first last parts text need sides c.more_never_lowers_the_need.ensures.admitted run room none
