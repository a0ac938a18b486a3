use Rattle.tree_space.proofs.RoomSides.{admitted_fits, weighed}
use Rattle.tree_space.proofs.law.an_admitted_tree_has_room.Goals as goal

pub returns-clause-weighed : goal.returns-clause-weighed
returns-clause-weighed c = weighed

pub returns-clause-fits : goal.returns-clause-fits
returns-clause-fits c = admitted_fits
