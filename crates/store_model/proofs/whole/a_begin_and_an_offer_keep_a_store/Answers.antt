use Rattle.store_model.specs.Events.{Begin, Offer}
use Rattle.store_model.proofs.WholeEvents.{begin_texts, is_no_begin, is_no_offer, offer_texts}
use Rattle.store_model.proofs.whole.a_begin_and_an_offer_keep_a_store.Goals as goal

pub returns-clause-begun : goal.returns-clause-begun
returns-clause-begun c = λ m victim can s. c.each_event_keeps_a_store.ensures m (Begin victim) can s (record {
  proper = c.each_event_but_a_put_keeps_cut_trees_proper.ensures m (Begin victim) can (is_no_begin victim) s;
  texts = begin_texts m victim s.standing.texts;
  indexed = c.nodes_of_the_index_are_written_first.ensures.begun m victim s;
  covered = s.covered;
})

pub returns-clause-offered : goal.returns-clause-offered
returns-clause-offered c = λ m can s. c.each_event_keeps_a_store.ensures m Offer can s (record {
  proper = c.each_event_but_a_put_keeps_cut_trees_proper.ensures m Offer can is_no_offer s;
  texts = offer_texts m s.standing.texts;
  indexed = c.nodes_of_the_index_are_written_first.ensures.offered m s;
  covered = s.covered;
})
