use Rattle.store_model.proofs.NextPlaces.{each_allotted}
use Rattle.store_model.proofs.lebs.each_event_keeps_what_places_a_commit_allotted.Goals as goal

pub returns : goal.returns
returns c = each_allotted
