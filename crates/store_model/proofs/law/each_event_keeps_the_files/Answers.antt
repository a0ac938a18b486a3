use Rattle.std.proofs.Common.{map}
use Rattle.index_tree.specs.Distinct.{AreDistinct}
use Rattle.store_model.specs.Events.{after, Begin, Drop, End, Event, Free, Move, Offer, Open, Put, Start, Sync, Write}
use Rattle.store_model.specs.Invariant.{HasFiles}
use Rattle.store_model.specs.Legal.{IsLegalEvent}
use Rattle.store_model.specs.Store.{Store}
use Rattle.store_model.proofs.EventFiles.{ended_files, freed_files, moved_files, started_files, written_files}
use Rattle.store_model.proofs.law.each_event_keeps_the_files.Goals as goal

pub returns : goal.returns
returns c = by
  where
    by : (m : Store) (event : Event) → IsLegalEvent m event → AreDistinct (map (λ x. x.leaf) m.live) → HasFiles m → HasFiles (after event m)
    by m (Put p) can d f = c.a_put_keeps_the_files.ensures.files m p can f
    by m (Open head lnum) can d f = record { leaves = f.leaves; tree = f.tree; index = f.index }
    by m Sync can d f = record { leaves = f.leaves; tree = f.tree; index = f.index }
    by m (Begin victim) can d f = record { leaves = f.leaves; tree = f.tree; index = f.index }
    by m (Move copying) can d f = moved_files c.a_copy_changes_no_tree.ensures.places m copying can d f
    by m Free can d f = freed_files m m.moving f
    by m (Start taken) can d f = started_files m taken f
    by m Write can d f = written_files m m.next f
    by m Offer can d f = record { leaves = f.leaves; tree = f.tree; index = f.index }
    by m End can d f = ended_files m m.next f
    by m (Drop ino index) can d f = c.a_drop_keeps_the_files.ensures.files m ino index can f
