use Rattle.store_model.proofs.NodePlaces.{each_place}
use Rattle.store_model.proofs.invariant.each_event_keeps_a_place_for_each_node.Goals as goal

pub returns : goal.returns
returns c = each_place
