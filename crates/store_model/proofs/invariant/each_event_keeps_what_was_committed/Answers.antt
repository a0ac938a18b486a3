use Rattle.store_model.specs.Events.{after, Begin, Drop, End, Event, Free, Move, Offer, Open, Put, Start, Sync, Write}
use Rattle.store_model.specs.Invariant.{HasViews, IsStore}
use Rattle.store_model.specs.Legal.{IsLegalEvent}
use Rattle.store_model.specs.Store.{Store}
use Rattle.store_model.proofs.CopiedLeaves.{copied_of}
use Rattle.store_model.proofs.invariant.each_event_keeps_what_was_committed.Goals as goal

pub returns : goal.returns
returns c = by
  where
    by : (m : Store) (event : Event) → IsLegalEvent m event → IsStore m → HasViews (after event m)
    by m (Put p) can s = c.a_put_keeps_the_files.ensures.views m p can s.views
    by m (Open head lnum) can s = c.an_opened_leb_keeps_the_files.ensures.views m head lnum can s.views
    by m Sync can s = c.a_sync_keeps_the_files.ensures.views m s.views
    by m (Begin victim) can s = c.a_commit_keeps_what_was_committed.ensures.begun m victim s.views
    by m (Move copying) can s = c.a_copy_keeps_what_was_committed.ensures m copying can s.owned (copied_of m copying can s.apart s.taking s.standing.of_views) s.views
    by m Free can s = c.a_commit_keeps_what_was_committed.ensures.freed m s.views
    by m (Start taken) can s = c.a_commit_keeps_what_was_committed.ensures.started m taken s.files s.owned s.distinct s.views
    by m Write can s = c.a_commit_keeps_what_was_committed.ensures.written m s.views
    by m Offer can s = c.a_commit_keeps_what_was_committed.ensures.offered m s.views
    by m End can s = c.a_commit_keeps_what_was_committed.ensures.ended m s.views
    by m (Drop ino index) can s = c.a_drop_keeps_the_files.ensures.views m ino index can s.views
