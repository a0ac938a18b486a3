use Rattle.std.proofs.Common.{map, refl, Option, Some, None}
use Rattle.index_tree.specs.Distinct.{AreDistinct}
use Rattle.store_model.specs.Events.{after, Begin, Drop, End, Event, Free, Move, Offer, Open, Put, Start, Sync, Write, begin, end_commit, free_victim, offer, open_leb, start, sync, write_index}
use Rattle.store_model.specs.Invariant.{AreOwned, HasFiles}
use Rattle.store_model.specs.Legal.{IsLegalEvent}
use Rattle.store_model.specs.Store.{Moving, Next, Store}
use Rattle.store_model.proofs.Owned.{drop_owned, move_owned, put_owned, same_owned}
use Rattle.store_model.proofs.law.each_event_keeps_blocks_with_their_inodes.Goals as goal

pub returns : goal.returns
returns c = by
  where
    freed : (m : Store) (moving : Option Moving) → AreOwned m → AreOwned (free_victim m moving)
    freed m None o = o
    freed m (Some moving) o = same_owned m (free_victim m (Some moving)) refl refl o

    written : (m : Store) (next : Option Next) → AreOwned m → AreOwned (write_index m next)
    written m None o = o
    written m (Some next) o = same_owned m (write_index m (Some next)) refl refl o

    ended : (m : Store) (next : Option Next) → AreOwned m → AreOwned (end_commit m next)
    ended m None o = o
    ended m (Some next) o = same_owned m (end_commit m (Some next)) refl refl o

    by : (m : Store) (event : Event) → IsLegalEvent m event → AreDistinct (map (λ x. x.leaf) m.live) → HasFiles m → AreOwned m → AreOwned (after event m)
    by m (Put p) can d f o = let law = c.a_change_of_leaves_is_one_of_the_tree.ensures in put_owned law.tree law.kept m p can.parts f o
    by m (Open head lnum) can d f o = same_owned m (open_leb head lnum m) refl refl o
    by m Sync can d f o = same_owned m (sync m) refl refl o
    by m (Begin victim) can d f o = same_owned m (begin victim m) refl refl o
    by m (Move copying) can d f o = move_owned m copying can d f o
    by m Free can d f o = freed m m.moving o
    by m (Start taken) can d f o = same_owned m (start taken m) refl refl o
    by m Write can d f o = written m m.next o
    by m Offer can d f o = same_owned m (offer m) refl refl o
    by m End can d f o = ended m m.next o
    by m (Drop ino index) can d f o = drop_owned m ino index o
