use Rattle.std.specs.Option.{option_map_or}
use Rattle.std.proofs.Common.{Option, subst, ◌≡◌, length, refl}
use Rattle.ubifs_base.specs.Geometry.{IsGeometry}
use Rattle.media_lpt.specs.declared.leb_kind.LebKind.TheVariants as kind
use Rattle.index_tree.specs.Shape.{node_count}
use Rattle.space_budget.specs.BookLaws.{index_nodes-positive}
use Rattle.store_model.specs.Events.{after, Begin, Drop, End, Event, Free, Move, Offer, Open, Put, Start, Sync, Write}
use Rattle.store_model.specs.Indexed.{committed_index, HasLastPlaces}
use Rattle.store_model.specs.Invariant.{AreRolesApart, IsTaking}
use Rattle.store_model.specs.Lebs.{has_role}
use Rattle.store_model.specs.Legal.{IsLegalEvent, KeepPlaces}
use Rattle.store_model.specs.Store.{Next, Store}
use Rattle.store_model.proofs.TakingCommits.{begin_taking, end_taking, free_taking, move_taking, offer_taking, write_taking}
use Rattle.store_model.proofs.TakingStarts.{kept_pass, start_taking}
use Rattle.store_model.proofs.lebs.each_event_keeps_what_a_commit_took.Goals as goal
use Rattle.store_model.specs.WrittenNodes.{rows_of}

pub returns : goal.returns
returns c = by
  where
    by : (m : Store) (event : Event) → IsLegalEvent m event → IsGeometry m.geo → AreRolesApart m → length m.index.places ≡ node_count m.index.shape
        → HasLastPlaces m → IsTaking m m.next → IsTaking (after event m) (after event m).next
    by m (Put p) can g a count last t = c.a_running_commit_keeps_its_lebs.ensures.put m p t
    by m (Open head lnum) can g a count last t = c.a_running_commit_keeps_its_lebs.ensures.open m head lnum can a t
    by m Sync can g a count last t = c.a_running_commit_keeps_its_lebs.ensures.sync m t
    by m (Begin victim) can g a count last t = begin_taking m victim t
    by m (Move copying) can g a count last t = move_taking m copying t
    by m Free can g a count last t = free_taking m m.moving refl a t
    by m (Start taken) can g a count last t =
        start_taking m taken (index_nodes-positive m.geo g) can a count (kept_pass (has_role kind.Index m.lebs) m.now.shape m.now.places (rows_of m.index.shape) m.index.places (subst (λ (o : Option Next). KeepPlaces (committed_index (option_map_or (λ next. next.view) o m.now)) (rows_of m.index.shape) m.index.places) can.idle last) a.index)
    by m Write can g a count last t = write_taking m m.next refl can t
    by m Offer can g a count last t = offer_taking m can t
    by m End can g a count last t = end_taking m m.next t
    by m (Drop ino index) can g a count last t = c.a_running_commit_keeps_its_lebs.ensures.dropped m ino index t
