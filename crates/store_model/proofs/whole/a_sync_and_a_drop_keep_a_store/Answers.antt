use Rattle.store_model.specs.Events.{Drop, Sync}
use Rattle.store_model.proofs.WholeEvents.{is_no_drop, is_no_sync}
use Rattle.store_model.proofs.whole.a_sync_and_a_drop_keep_a_store.Goals as goal

pub returns-clause-synced : goal.returns-clause-synced
returns-clause-synced c = λ m s. c.each_event_keeps_a_store.ensures m Sync tt s (record {
  proper = c.each_event_but_a_put_keeps_cut_trees_proper.ensures m Sync tt is_no_sync s;
  texts = c.texts_have_what_was_put.ensures.sync m s;
  indexed = c.nodes_of_the_index_stay.ensures.sync m s;
  covered = c.what_was_granted_stays_covered.ensures.synced m s.covered;
})

pub returns-clause-dropped : goal.returns-clause-dropped
returns-clause-dropped c = λ m ino index can s. c.each_event_keeps_a_store.ensures m (Drop ino index) can s (record {
  proper = c.each_event_but_a_put_keeps_cut_trees_proper.ensures m (Drop ino index) can (is_no_drop ino index) s;
  texts = c.texts_have_what_was_put.ensures.dropped m ino index s;
  indexed = c.nodes_of_the_index_stay.ensures.dropped m ino index can s;
  covered = c.what_was_granted_stays_covered.ensures.dropped m ino index can s.files s.covered;
})
