-- What became of committed leaves, what is gone since a commit, and whole or left LEBs: after each event.
use Rattle.std.proofs.Common.{refl}
use Rattle.store_model.specs.Events.{after, Begin, Drop, End, Event, Free, Move, Offer, Open, Put, Start, Sync, Write}
use Rattle.store_model.specs.Invariant.{AreAccountedFor, AreWholeOrLeft, HasGone, IsStore, OfBoth}
use Rattle.store_model.specs.Legal.{IsLegalEvent}
use Rattle.store_model.specs.Store.{Store}
use Rattle.store_model.proofs.Accounted.{begin_accounted, end_accounted, offer_accounted, open_accounted, start_accounted, write_accounted}
use Rattle.store_model.proofs.AccountedCopies.{free_accounted, move_accounted}
use Rattle.store_model.proofs.AccountedPuts.{put_kept}
use Rattle.store_model.proofs.GoneEvents.{begin_gone, drop_gone, end_gone, free_gone, move_gone, offer_gone, open_gone, start_gone, sync_gone, write_gone}
use Rattle.store_model.proofs.GoneLeaves.{drop_accounted, sync_accounted}
use Rattle.store_model.proofs.Offers.{offer_keeps_left}
use Rattle.store_model.proofs.WholeEvents.{begin_whole}
use Rattle.store_model.proofs.WholeOpens.{open_whole}
use Rattle.store_model.proofs.WholeStarts.{start_whole}
use Rattle.store_model.proofs.WholeSteps.{drop_whole, end_whole, free_whole, move_whole, sync_whole, write_whole}

pub each_accounted : (m : Store) (event : Event) → IsLegalEvent m event → IsStore m → OfBoth (after event m) (AreAccountedFor (after event m))
each_accounted m (Put p) can s = (put_kept m p can.parts s).accounted
each_accounted m (Open head lnum) can s = open_accounted m head lnum s.accounted
each_accounted m Sync can s = sync_accounted m s
each_accounted m (Begin victim) can s = begin_accounted m victim can s.accounted
each_accounted m (Move c) can s = move_accounted m c can s
each_accounted m Free can s = free_accounted m m.moving refl can s.since s.accounted
each_accounted m (Start taken) can s = start_accounted m taken can s.accounted
each_accounted m Write can s = write_accounted m m.next refl s.accounted
each_accounted m Offer can s = offer_accounted m can s
each_accounted m End can s = end_accounted m m.next refl s.accounted
each_accounted m (Drop ino index) can s = drop_accounted m ino index s

pub each_gone : (m : Store) (event : Event) → IsLegalEvent m event → IsStore m → OfBoth (after event m) (HasGone (after event m))
each_gone m (Put p) can s = (put_kept m p can.parts s).gone
each_gone m (Open head lnum) can s = open_gone m head lnum s.gone
each_gone m Sync can s = sync_gone m s.since s.gone
each_gone m (Begin victim) can s = begin_gone m victim s.gone
each_gone m (Move c) can s = move_gone m c s.gone
each_gone m Free can s = free_gone m m.moving s.gone
each_gone m (Start taken) can s = start_gone m taken can s
each_gone m Write can s = write_gone m m.next refl s.gone
each_gone m Offer can s = offer_gone m s.gone
each_gone m End can s = end_gone m m.next refl s.gone
each_gone m (Drop ino index) can s = drop_gone m ino index can s.proper_now s.gone

pub each_whole : (m : Store) (event : Event) → IsLegalEvent m event → IsStore m → OfBoth (after event m) (AreWholeOrLeft (after event m))
each_whole m (Put p) can s = (put_kept m p can.parts s).whole
each_whole m (Open head lnum) can s = open_whole m head lnum can.empty s.apart s.bare s.whole_or_left
each_whole m Sync can s = sync_whole m s.numbers.synced s.whole_or_left (sync_accounted m s)
each_whole m (Begin victim) can s = begin_whole m victim s.whole_or_left
each_whole m (Move c) can s = move_whole m c can s.apart s.since s.whole_or_left
each_whole m Free can s = free_whole m m.moving refl can s.whole_or_left (free_accounted m m.moving refl can s.since s.accounted)
each_whole m (Start taken) can s = start_whole m taken can s.apart s.standing.texts s.stands s.whole_or_left
each_whole m Write can s = write_whole m m.next refl can s.apart s.taking s.bare s.whole_or_left
each_whole m Offer can s = offer_keeps_left m s
each_whole m End can s = end_whole m m.next refl s.apart s.bare s.whole_or_left (end_accounted m m.next refl s.accounted)
each_whole m (Drop ino index) can s = drop_whole m ino index s.whole_or_left (drop_accounted m ino index s)
