-- The files are a proper tree, after each event too.
use Rattle.std.proofs.Common.{◌≡◌, ℕ, true, Option, Some, None}
use Rattle.fs_model.specs.Change.{without_inode}
use Rattle.fs_model.specs.Files.{Tree}
use Rattle.fs_model.specs.Orphan.{is_nameless}
use Rattle.fs_model.specs.Proper.{IsProper}
use Rattle.store_model.specs.Events.{after, Begin, Drop, End, end_commit, Event, Free, free_victim, Move, Offer, Open, Put, Start, Sync, Write, write_index}
use Rattle.store_model.specs.Invariant.{IsStore}
use Rattle.store_model.specs.Legal.{IsLegalEvent}
use Rattle.store_model.specs.Store.{Moving, Next, Store}
use Rattle.store_model.proofs.JournalEvents.{orphan_nameless}
use Rattle.store_model.proofs.PutProper.{put_proper}

abbrev DroppedLaw : Type 0
DroppedLaw = (tree : Tree) (ino : ℕ) → IsProper tree → is_nameless tree ino ≡ true → IsProper (without_inode tree ino)

free_proper : (m : Store) (moving : Option Moving) → IsProper m.tree → IsProper (free_victim m moving).tree
free_proper m None h = h
free_proper m (Some moving) h = h

write_proper : (m : Store) (next : Option Next) → IsProper m.tree → IsProper (write_index m next).tree
write_proper m None h = h
write_proper m (Some next) h = h

end_proper : (m : Store) (next : Option Next) → IsProper m.tree → IsProper (end_commit m next).tree
end_proper m None h = h
end_proper m (Some next) h = h

pub each_proper : DroppedLaw → (m : Store) (event : Event) → IsLegalEvent m event → IsStore m → IsProper (after event m).tree
each_proper law m (Put p) can s = put_proper m p can.parts s.proper_now
each_proper law m (Open head lnum) can s = s.proper_now
each_proper law m Sync can s = s.proper_now
each_proper law m (Begin victim) can s = s.proper_now
each_proper law m (Move c) can s = s.proper_now
each_proper law m Free can s = free_proper m m.moving s.proper_now
each_proper law m (Start taken) can s = s.proper_now
each_proper law m Write can s = write_proper m m.next s.proper_now
each_proper law m Offer can s = s.proper_now
each_proper law m End can s = end_proper m m.next s.proper_now
each_proper law m (Drop ino index) can s = law m.tree ino s.proper_now (orphan_nameless m ino can.orphan s.nameless_are s.proper_now)
