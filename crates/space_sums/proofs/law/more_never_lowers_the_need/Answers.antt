use Rattle.space_sums.proofs.Admitted.{has_room_below}
use Rattle.space_sums.proofs.Index.{index_room-grows}
use Rattle.space_sums.proofs.Keeps.{needed-grows, room_for-falls}
use Rattle.space_sums.proofs.law.more_never_lowers_the_need.Goals as goal

pub returns-clause-need : goal.returns-clause-need
returns-clause-need c = needed-grows

pub returns-clause-room : goal.returns-clause-room
returns-clause-room c = room_for-falls

pub returns-clause-index : goal.returns-clause-index
returns-clause-index c = index_room-grows

pub returns-clause-admitted : goal.returns-clause-admitted
returns-clause-admitted c = has_room_below
