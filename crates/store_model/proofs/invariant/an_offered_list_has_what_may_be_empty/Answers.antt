use Rattle.store_model.proofs.Offers.{offer_keeps_left}
use Rattle.store_model.proofs.invariant.an_offered_list_has_what_may_be_empty.Goals as goal

pub returns : goal.returns
returns c = offer_keeps_left
