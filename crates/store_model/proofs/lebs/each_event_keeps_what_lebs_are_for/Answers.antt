use Rattle.store_model.specs.Events.{after, Begin, Drop, End, Event, Free, Move, Offer, Open, Put, Start, Sync, Write}
use Rattle.store_model.specs.Invariant.{AreRolesApart, HasSince, IsTaking}
use Rattle.store_model.specs.Legal.{IsLegalEvent}
use Rattle.store_model.specs.Store.{Store}
use Rattle.store_model.proofs.lebs.each_event_keeps_what_lebs_are_for.Goals as goal

pub returns : goal.returns
returns c = by
  where
    by : (m : Store) (event : Event) → IsLegalEvent m event → IsTaking m m.next → HasSince m m.next → AreRolesApart m → AreRolesApart (after event m)
    by m (Put p) can t s a = c.lebs_keep_what_they_are_for.ensures.put m p can a
    by m (Open head lnum) can t s a = c.lebs_keep_what_they_are_for.ensures.open m head lnum can a
    by m Sync can t s a = c.lebs_keep_what_they_are_for.ensures.sync m a
    by m (Begin victim) can t s a = c.a_collection_keeps_what_lebs_are_for.ensures.begun m victim can a
    by m (Move copying) can t s a = c.a_collection_keeps_what_lebs_are_for.ensures.moved m copying can a
    by m Free can t s a = c.a_collection_keeps_what_lebs_are_for.ensures.freed m can a
    by m (Start taken) can t s a = c.a_commit_keeps_what_lebs_are_for.ensures.started m taken can a
    by m Write can t s a = c.a_commit_keeps_what_lebs_are_for.ensures.written m a
    by m Offer can t s a = c.a_commit_keeps_what_lebs_are_for.ensures.offered m a
    by m End can t s a = c.a_commit_keeps_what_lebs_are_for.ensures.ended m t s a
    by m (Drop ino index) can t s a = c.lebs_keep_what_they_are_for.ensures.dropped m ino index can a
