use Rattle.store_model.specs.Events.{after, Begin, Drop, End, Event, Free, Move, Offer, Open, Put, Start, Sync, Write}
use Rattle.store_model.specs.Invariant.{IsStore}
use Rattle.store_model.specs.Lebs.{IsStoreSettled}
use Rattle.store_model.specs.Legal.{IsLegalEvent}
use Rattle.store_model.specs.Store.{Store}
use Rattle.store_model.proofs.WholeEvents.{offer_settled}
use Rattle.store_model.proofs.grants.each_event_keeps_a_store_settled.Goals as goal

pub returns : goal.returns
returns c = by
  where
    by : (m : Store) (event : Event) → IsLegalEvent m event → IsStore m → IsStoreSettled (after event m)
    by m (Put p) can s = can.settled
    by m (Open head lnum) can s = can.settled
    by m Sync can s = c.a_store_stays_settled.ensures.synced m s.settled
    by m (Begin victim) can s = c.a_store_stays_settled.ensures.begun m victim can s.settled
    by m (Move copying) can s = c.a_store_stays_settled.ensures.moved m copying s.settled
    by m Free can s = c.a_store_stays_settled.ensures.freed m s.apart s.settled
    by m (Start taken) can s = c.a_commits_start_keeps_a_store_settled.ensures m taken can s
    by m Write can s = c.a_commits_writing_changes_no_number.ensures.settled m s.settled
    by m Offer can s = offer_settled m s.settled
    by m End can s = c.a_commits_end_keeps_what_was_granted.ensures.settled m can s
    by m (Drop ino index) can s = c.a_store_stays_settled.ensures.dropped m ino index s.settled
