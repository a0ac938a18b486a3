use Rattle.std.proofs.Common.{refl}
use Rattle.ubifs_base.specs.Geometry.{IsGeometry}
use Rattle.store_model.specs.Events.{after, Begin, Drop, End, Event, Free, Move, Offer, Open, Put, Start, Sync, Write}
use Rattle.store_model.specs.Legal.{IsLegalEvent}
use Rattle.store_model.specs.LogRing.{HasLogLebs}
use Rattle.store_model.specs.Store.{Store}
use Rattle.store_model.proofs.LogSteps.{begin_log, drop_log, end_log, free_log, move_log, offer_log, open_log, put_log, start_log, sync_log, write_log}
use Rattle.store_model.proofs.law.each_event_keeps_the_log.Goals as goal

pub returns : goal.returns
returns c = by
  where
    by : (m : Store) (event : Event) → IsLegalEvent m event → IsGeometry m.geo → HasLogLebs m → HasLogLebs (after event m)
    by m (Put p) can g h = put_log m p h
    by m (Open head lnum) can g h = open_log m head lnum can g h
    by m Sync can g h = sync_log m h
    by m (Begin victim) can g h = begin_log m victim h
    by m (Move copying) can g h = move_log m copying h
    by m Free can g h = free_log m m.moving h
    by m (Start taken) can g h = start_log m taken can g h
    by m Write can g h = write_log m m.next refl h
    by m Offer can g h = offer_log m h
    by m End can g h = end_log m m.next refl h
    by m (Drop ino index) can g h = drop_log m ino index h
