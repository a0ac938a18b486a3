use Rattle.std.proofs.Common.{refl}
use Rattle.store_model.specs.Events.{after, Begin, Drop, End, Event, Free, Move, Offer, Open, Put, Start, Sync, Write}
use Rattle.store_model.specs.Invariant.{HasNumbers}
use Rattle.store_model.specs.Legal.{IsLegalEvent}
use Rattle.store_model.specs.Store.{Store}
use Rattle.store_model.proofs.EventNumbers.{begun_numbers, ended_numbers, freed_numbers, moved_numbers, offered_numbers, started_numbers, written_numbers}
use Rattle.store_model.proofs.law.each_event_keeps_the_numbers.Goals as goal

pub returns : goal.returns
returns c = by
  where
    by : (m : Store) (event : Event) → IsLegalEvent m event → HasNumbers m → HasNumbers (after event m)
    by m (Put p) can n = c.a_put_keeps_the_files.ensures.numbers m p can n
    by m (Open head lnum) can n = c.an_opened_leb_keeps_the_files.ensures.numbers m head lnum can n
    by m Sync can n = c.a_sync_keeps_the_files.ensures.numbers m n
    by m (Begin victim) can n = begun_numbers m victim n
    by m (Move copying) can n = moved_numbers m copying n
    by m Free can n = freed_numbers m m.moving n
    by m (Start taken) can n = started_numbers m taken n
    by m Write can n = written_numbers m m.next refl n
    by m Offer can n = offered_numbers m n
    by m End can n = ended_numbers m m.next refl n
    by m (Drop ino index) can n = c.a_drop_keeps_the_files.ensures.numbers m ino index can n
