-- Each node of the index has a place or none yet, after each event too.
use Rattle.std.proofs.Common.{◌≡◌, ℕ, suc, Bool, true, false, cond, List, [], ◌∷◌, length, map, refl, ap, ◌∙◌, ◌+◌, Option, Some, None}
use Rattle.ubifs_base.specs.declared.raw_geometry.RawGeometry.{RawGeometry}
use Rattle.index_tree.specs.Shape.{node_count}
use Rattle.store_model.specs.Events.{after, all_places, Begin, clean_places, Drop, End, end_commit, Event, Free, free_victim, is_whole_commit, Move, Offer, Open, Put, Start, Sync, Write, write_index}
use Rattle.store_model.specs.Legal.{IsLegalEvent}
use Rattle.store_model.specs.Store.{Moving, Next, IndexNodePlace, Store}
use Rattle.store_model.proofs.BackingCalls.{length_map}

abbrev HasPlaces : Store → Type 0
HasPlaces m = length m.index.places ≡ node_count m.index.shape

as_many : (geo : RawGeometry) (taken : List ℕ) (n : ℕ) (places : List (Option IndexNodePlace)) → length (all_places geo taken n places) ≡ length places
as_many geo taken n [] = refl
as_many geo taken n (None ∷ places) = ap (λ k. suc k) (as_many geo taken (n + 1) places)
as_many geo taken n (Some place ∷ places) = ap (λ k. suc k) (as_many geo taken n places)

as_many_clean : (m : Store) → length (clean_places m) ≡ length m.index.places
as_many_clean m = by (is_whole_commit m)
  where
    none : Option IndexNodePlace → Option IndexNodePlace
    none place = None

    by : (b : Bool) → length (cond b (map (λ place. None) m.index.places) m.index.places) ≡ length m.index.places
    by true = length_map none m.index.places
    by false = refl

abbrev some_place : IndexNodePlace → Option IndexNodePlace
some_place place = Some place

-- a commit gives each node its place
start_place : (m : Store) (taken : List ℕ) → HasPlaces m → HasPlaces (after (Start taken) m)
start_place m taken h = length_map some_place (all_places m.geo taken 0 (clean_places m)) ∙ as_many m.geo taken 0 (clean_places m) ∙ as_many_clean m ∙ h

free_place : (m : Store) (moving : Option Moving) → HasPlaces m → HasPlaces (free_victim m moving)
free_place m None h = h
free_place m (Some moving) h = h

write_place : (m : Store) (next : Option Next) → HasPlaces m → HasPlaces (write_index m next)
write_place m None h = h
write_place m (Some next) h = h

end_place : (m : Store) (next : Option Next) → HasPlaces m → HasPlaces (end_commit m next)
end_place m None h = h
end_place m (Some next) h = h

pub each_place : (m : Store) (event : Event) → IsLegalEvent m event → HasPlaces m → HasPlaces (after event m)
each_place m (Put p) can h = can.index.all
each_place m (Open head lnum) can h = h
each_place m Sync can h = h
each_place m (Begin victim) can h = h
each_place m (Move c) can h = can.index.all
each_place m Free can h = free_place m m.moving h
each_place m (Start taken) can h = start_place m taken h
each_place m Write can h = write_place m m.next h
each_place m Offer can h = h
each_place m End can h = end_place m m.next h
each_place m (Drop ino index) can h = can.index_is.all
