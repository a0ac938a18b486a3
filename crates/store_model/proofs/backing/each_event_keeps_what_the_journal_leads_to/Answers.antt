use Rattle.std.proofs.Common.{◌≡◌, map, Option, Some, None, refl}
use Rattle.fs_model.specs.Orphan.{nameless}
use Rattle.fs_model.specs.Proper.{IsProper}
use Rattle.store_model.specs.Begun.{HasBegun, JournalLeads}
use Rattle.store_model.specs.Events.{after, Begin, begin, Drop, End, Event, Free, free_victim, Move, move, Offer, offer, Open, open_leb, Put, Start, start, Sync, sync, Write, write_index}
use Rattle.store_model.specs.Invariant.{AreRolesApart, HasNumbers}
use Rattle.store_model.specs.Legal.{IsLegalEvent}
use Rattle.store_model.specs.Store.{Moving, Next, Store}
use Rattle.store_model.proofs.EventNumbers.{groups_copied}
use Rattle.store_model.proofs.JournalEvents.{drop_leads, end_leads, put_leads, same_leads}
use Rattle.store_model.proofs.Opens.{groups_open}
use Rattle.store_model.proofs.backing.each_event_keeps_what_the_journal_leads_to.Goals as goal

pub returns : goal.returns
returns c = by
  where
    freed : (m : Store) (moving : Option Moving) → JournalLeads m → JournalLeads (free_victim m moving)
    freed m None j = j
    freed m (Some moving) j = same_leads m (free_victim m (Some moving)) refl refl refl j

    written : (m : Store) (next : Option Next) → JournalLeads m → JournalLeads (write_index m next)
    written m None j = j
    written m (Some next) j = same_leads m (write_index m (Some next)) refl refl refl j

    by : (m : Store) (event : Event) → IsLegalEvent m event → IsProper m.tree → map (λ orphan. orphan.ino) m.orphans ≡ nameless m.tree → AreRolesApart m → HasNumbers m → HasBegun m m.next → JournalLeads m → JournalLeads (after event m)
    by m (Put p) can proper are a n b j = put_leads m p can.parts proper a n j
    by m (Open head lnum) can proper are a n b j = same_leads m (open_leb head lnum m) refl refl (rw (groups_open 1 head lnum m.now.buds, groups_open 2 head lnum m.now.buds) refl) j
    by m Sync can proper are a n b j = same_leads m (sync m) refl refl refl j
    by m (Begin victim) can proper are a n b j = same_leads m (begin victim m) refl refl refl j
    by m (Move copying) can proper are a n b j = same_leads m (move copying m) refl refl (rw (groups_copied 1 copying.copy m.now.buds, groups_copied 2 copying.copy m.now.buds) refl) j
    by m Free can proper are a n b j = freed m m.moving j
    by m (Start taken) can proper are a n b j = same_leads m (start taken m) refl refl refl j
    by m Write can proper are a n b j = written m m.next j
    by m Offer can proper are a n b j = same_leads m (offer m) refl refl refl j
    by m End can proper are a n b j = end_leads m m.next refl b j
    by m (Drop ino index) can proper are a n b j = drop_leads m ino index can.orphan are proper j
