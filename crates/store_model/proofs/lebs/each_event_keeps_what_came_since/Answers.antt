use Rattle.store_model.specs.Events.{after, Begin, Drop, End, Event, Free, Move, Offer, Open, Put, Start, Sync, Write}
use Rattle.std.proofs.Common.{refl}
use Rattle.store_model.specs.Invariant.{AreRolesApart, HasSince}
use Rattle.store_model.specs.Legal.{IsLegalEvent}
use Rattle.store_model.specs.Store.{Store}
use Rattle.store_model.proofs.SinceCommits.{begin_since, end_since, free_since, move_since, offer_since, start_since, write_since}
use Rattle.store_model.proofs.lebs.each_event_keeps_what_came_since.Goals as goal

pub returns : goal.returns
returns c = by
  where
    by : (m : Store) (event : Event) → IsLegalEvent m event → AreRolesApart m → HasSince m m.next → HasSince (after event m) (after event m).next
    by m (Put p) can a s = c.a_running_commit_gets_what_is_put.ensures.put m p can a s
    by m (Open head lnum) can a s = c.a_running_commit_gets_what_is_put.ensures.open m head lnum s
    by m Sync can a s = c.a_running_commit_gets_what_is_put.ensures.sync m s
    by m (Begin victim) can a s = begin_since m victim s
    by m (Move copying) can a s = move_since m copying can a s
    by m Free can a s = free_since m m.moving s
    by m (Start taken) can a s = start_since m taken can
    by m Write can a s = write_since m m.next refl s
    by m Offer can a s = offer_since m s
    by m End can a s = end_since m m.next s
    by m (Drop ino index) can a s = c.a_running_commit_gets_what_is_put.ensures.dropped m ino index s
