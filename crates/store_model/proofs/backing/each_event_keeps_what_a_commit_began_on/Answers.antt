use Rattle.std.proofs.Common.{refl}
use Rattle.store_model.specs.Begun.{HasBegun, JournalLeads}
use Rattle.store_model.specs.Events.{after, Begin, Drop, End, Event, Free, Move, Offer, Open, Put, Start, Sync, Write}
use Rattle.store_model.specs.Invariant.{AreRolesApart, HasNumbers, HasSince}
use Rattle.store_model.specs.Legal.{IsLegalEvent}
use Rattle.store_model.specs.Store.{Store}
use Rattle.store_model.proofs.BegunCommits.{end_begun, start_begun}
use Rattle.store_model.proofs.BegunEvents.{begin_begun, drop_begun, free_begun, move_begun, offer_begun, open_begun, put_begun, sync_begun, write_begun}
use Rattle.store_model.proofs.backing.each_event_keeps_what_a_commit_began_on.Goals as goal

pub returns : goal.returns
returns c = by
  where
    by : (m : Store) (event : Event) → IsLegalEvent m event → AreRolesApart m → HasSince m m.next → HasNumbers m → JournalLeads m → HasBegun m m.next → HasBegun (after event m) (after event m).next
    by m (Put p) can a s n l b = put_begun m p can.parts a s b
    by m (Open head lnum) can a s n l b = open_begun m head lnum b
    by m Sync can a s n l b = sync_begun m b
    by m (Begin victim) can a s n l b = begin_begun m victim b
    by m (Move copying) can a s n l b = move_begun m copying b
    by m Free can a s n l b = free_begun m m.moving b
    by m (Start taken) can a s n l b = start_begun m taken can n.both.0 l
    by m Write can a s n l b = write_begun m m.next refl b
    by m Offer can a s n l b = offer_begun m b
    by m End can a s n l b = end_begun m m.next b
    by m (Drop ino index) can a s n l b = drop_begun m ino index b
