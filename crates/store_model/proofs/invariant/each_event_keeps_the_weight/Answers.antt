use Rattle.store_model.proofs.Weights.{each_light}
use Rattle.store_model.proofs.invariant.each_event_keeps_the_weight.Goals as goal

pub returns : goal.returns
returns c = each_light
