use Rattle.std.proofs.Common.{refl}
use Rattle.store_model.specs.Events.{after, Begin, Drop, End, Event, Free, Move, Offer, Open, Put, Start, Sync, Write}
use Rattle.store_model.specs.Invariant.{HasDataHead}
use Rattle.store_model.specs.Legal.{IsLegalEvent}
use Rattle.store_model.specs.Store.{Store}
use Rattle.store_model.proofs.DataHeads.{begin_data, drop_data, end_data, free_data, move_data, offer_data, open_data, put_data, start_data, sync_data, write_data}
use Rattle.store_model.proofs.law.each_event_keeps_the_head_of_data.Goals as goal

pub returns : goal.returns
returns c = by
  where
    by : (m : Store) (event : Event) → IsLegalEvent m event → HasDataHead m → HasDataHead (after event m)
    by m (Put p) can d = put_data m p can.parts d
    by m (Open head lnum) can d = open_data m head lnum d
    by m Sync can d = sync_data m d
    by m (Begin victim) can d = begin_data m victim d
    by m (Move copying) can d = move_data m copying d
    by m Free can d = free_data m m.moving d
    by m (Start taken) can d = start_data m taken d
    by m Write can d = write_data m m.next refl d
    by m Offer can d = offer_data m d
    by m End can d = end_data m m.next refl d
    by m (Drop ino index) can d = drop_data m ino index d
