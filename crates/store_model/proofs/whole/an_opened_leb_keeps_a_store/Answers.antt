use Rattle.store_model.specs.Events.{Open}
use Rattle.store_model.proofs.WholeEvents.{is_no_open}
use Rattle.store_model.proofs.whole.an_opened_leb_keeps_a_store.Goals as goal

pub returns : goal.returns
returns c = λ m head lnum can s. c.each_event_keeps_a_store.ensures m (Open head lnum) can s (record {
  proper = c.each_event_but_a_put_keeps_cut_trees_proper.ensures m (Open head lnum) can (is_no_open head lnum) s;
  texts = c.texts_have_what_was_put.ensures.open m head lnum can s;
  indexed = c.nodes_of_the_index_stay.ensures.open m head lnum can s;
  covered = c.what_was_granted_stays_covered.ensures.opened m head lnum can s.apart s.covered;
})
