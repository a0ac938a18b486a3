use Rattle.space_sums.proofs.Admitted.{has_room_with_no_more, covered_with_no_more}
use Rattle.space_sums.proofs.law.what_takes_no_more_keeps_what_was_granted.Goals as goal

pub returns-clause-room : goal.returns-clause-room
returns-clause-room c = has_room_with_no_more

pub returns-clause-covered : goal.returns-clause-covered
returns-clause-covered c = covered_with_no_more
