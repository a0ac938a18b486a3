-- No event changes which LEBs there are, nor the numbers of the volume.
use Rattle.std.proofs.Common.{◌≡◌, ℕ, Bool, true, false, cond, not, List, [], ◌∷◌, ◌++◌, map, refl, ap, ◌∙◌, Option, Some, None}
use Rattle.std.specs.Prelude.{◌==◌, ◌&&◌, fold, get_or}
use Rattle.std.specs.List.{flat_map, list_any}
use Rattle.media_lpt.specs.declared.leb_kind.LebKind.{LebKind}
use Rattle.media_lpt.specs.declared.leb_kind.LebKind.TheVariants as kind
use Rattle.ubifs_base.specs.declared.raw_geometry.RawGeometry.{RawGeometry}
use Rattle.leaf_map.specs.Kept.{Placed}
use Rattle.store_model.specs.Events.{after, after_part, Begin, credit, Drop, End, end_at, end_commit, Event, Free, free_victim, granted, last_gap, Move, node_items, Offer, Open, padded_head, paid, Part, Payment, Put, put, Putting, role_after, role_then, Start, Sync, take_leb, view_branchings, with_items, with_nodes, Write, write_index}
use Rattle.store_model.specs.Lebs.{emptied_leb, freed, has_leaf, has_node, is_among, is_role, is_victim_of}
use Rattle.store_model.specs.Store.{At, Item, leaf, Leb, Moving, Next, Store, View}
use Rattle.store_model.proofs.LebDrops.{dropped_store}
use Rattle.store_model.proofs.LebEnds.{ended_store}
use Rattle.store_model.proofs.LebFrees.{synced_store}
use Rattle.store_model.proofs.TextItems.{lnums, same_lnums}
use Rattle.store_model.proofs.TextOpens.{opened}

-- ---- LEBs that keep their numbers
map_lnums : (f : Leb → Leb) → ((leb : Leb) → (f leb).lnum ≡ leb.lnum) → (lebs : List Leb) → lnums (map f lebs) ≡ lnums lebs
map_lnums f keeps [] = refl
map_lnums f keeps (leb ∷ lebs) = ap (λ (n : ℕ). n ∷ lnums (map f lebs)) (keeps leb) ∙ ap (λ (ns : List ℕ). leb.lnum ∷ ns) (map_lnums f keeps lebs)

with_lnums : (n : ℕ) (items : List Item) (lebs : List Leb) → lnums (with_items n items lebs) ≡ lnums lebs
with_lnums n items lebs = same_lnums n (λ leb. record leb { text = leb.text ++ items }) (λ leb. refl) lebs

padded_lnums : (geo : RawGeometry) (lebs : List Leb) (at : Option At) → lnums (padded_head geo lebs at) ≡ lnums lebs
padded_lnums geo lebs None = refl
padded_lnums geo lebs (Some at) = with_lnums at.lnum (last_gap geo at) lebs

all_padded_lnums : (geo : RawGeometry) (lebs : List Leb) (ends : List (Option At)) → lnums (fold (padded_head geo) lebs ends) ≡ lnums lebs
all_padded_lnums geo lebs [] = refl
all_padded_lnums geo lebs (at ∷ ends) = all_padded_lnums geo (padded_head geo lebs at) ends ∙ padded_lnums geo lebs at

freed_lnums : (k : Store) (lebs : List Leb) → lnums (map (freed k) lebs) ≡ lnums lebs
freed_lnums k lebs = map_lnums (freed k) (λ leb. by leb (is_role kind.Leaf leb.role && not (has_leaf k leb.lnum) && not (is_victim_of k.moving leb.lnum))) lebs
  where
    by : (leb : Leb) (b : Bool) → (cond b (emptied_leb leb) leb).lnum ≡ leb.lnum
    by leb true = refl
    by leb false = refl

taken_lnums : (taken : List ℕ) (lebs : List Leb) → lnums (map (take_leb taken) lebs) ≡ lnums lebs
taken_lnums taken lebs = map_lnums (take_leb taken) (λ leb. by leb (is_among taken leb.lnum)) lebs
  where
    by : (leb : Leb) (b : Bool) → (cond b (record leb { role = kind.Taken }) leb).lnum ≡ leb.lnum
    by leb true = refl
    by leb false = refl

role_lnum : (view : View) (leb : Leb) (role : LebKind) → (role_then view leb role).lnum ≡ leb.lnum
role_lnum view leb kind.Free = refl
role_lnum view leb kind.Leaf = refl
role_lnum view leb kind.Index = by (has_node view.places leb.lnum)
  where
    by : (b : Bool) → (cond b leb (emptied_leb leb)).lnum ≡ leb.lnum
    by true = refl
    by false = refl
role_lnum view leb kind.Bud = by (list_any (λ bud. bud.lnum == leb.lnum) view.buds)
  where
    by : (b : Bool) → (cond b leb (record leb { role = kind.Leaf })).lnum ≡ leb.lnum
    by true = refl
    by false = refl
role_lnum view leb kind.Taken = refl

-- ---- the events
nodes_lnums : (m : Store) (head : ℕ) (nodes : List Placed) → lnums (with_nodes m head nodes).lebs ≡ lnums m.lebs
nodes_lnums m head nodes = by (end_at m.ends head) refl
  where
    by : (o : Option At) → end_at m.ends head ≡ o → lnums (with_nodes m head nodes).lebs ≡ lnums m.lebs
    by None e = rw e refl
    by (Some at) e = rw e (with_lnums at.lnum (map leaf nodes) m.lebs)

record IsSameArea (m k : Store) : Type 0 where
  geo : k.geo ≡ m.geo
  lebs : lnums k.lebs ≡ lnums m.lebs

parts_same : (parts : List Part) (m : Store) → IsSameArea m (fold after_part m parts)
parts_same [] m = record { geo = refl; lebs = refl }
parts_same (part ∷ parts) m =
    let rest = parts_same parts (after_part m part) in
    record { geo = rest.geo; lebs = rest.lebs ∙ nodes_lnums m part.head (map (λ c. c.placed) part.group) }

put_same : (m : Store) (p : Putting) → IsSameArea m (put p m)
put_same m p = by p.payment (parts_same p.parts m)
  where
    by : (payment : Payment) → IsSameArea m (fold after_part m p.parts) → IsSameArea m (record (paid payment (fold after_part m p.parts)) { index = p.index })
    by credit s = record { geo = s.geo; lebs = s.lebs }
    by granted s = record { geo = s.geo; lebs = s.lebs }

free_same : (m : Store) (moving : Option Moving) → IsSameArea m (free_victim m moving)
free_same m None = record { geo = refl; lebs = refl }
free_same m (Some moving) = record { geo = refl; lebs = same_lnums moving.victim emptied_leb (λ leb. refl) m.lebs }

write_same : (m : Store) (next : Option Next) → IsSameArea m (write_index m next)
write_same m None = record { geo = refl; lebs = refl }
write_same m (Some next) = record {
  geo = refl;
  lebs = same_lnums (get_or next.taken next.written 0) (λ leb. record leb { text = flat_map (node_items m.geo) (view_branchings next.view (get_or next.taken next.written 0) m.sqnum) }) (λ leb. refl) m.lebs;
}

end_same : (m : Store) (next : Option Next) → IsSameArea m (end_commit m next)
end_same m None = record { geo = refl; lebs = refl }
end_same m (Some next) = record { geo = refl; lebs = freed_lnums (ended_store m next) (map (role_after next.view) m.lebs) ∙ map_lnums (role_after next.view) (λ leb. role_lnum next.view leb leb.role) m.lebs }

same_area : (m : Store) (event : Event) → IsSameArea m (after event m)
same_area m (Put p) = put_same m p
same_area m (Open head lnum) = record { geo = refl; lebs = same_lnums lnum opened (λ leb. refl) (padded_head m.geo m.lebs (end_at m.ends head)) ∙ padded_lnums m.geo m.lebs (end_at m.ends head) }
same_area m Sync = record { geo = refl; lebs = freed_lnums (synced_store m) (fold (padded_head m.geo) m.lebs m.ends) ∙ all_padded_lnums m.geo m.lebs m.ends }
same_area m (Begin victim) = record { geo = refl; lebs = refl }
same_area m (Move c) = record { geo = refl; lebs = nodes_lnums m 0 (c.copy ∷ []) }
same_area m Free = free_same m m.moving
same_area m (Start taken) = record { geo = refl; lebs = taken_lnums taken m.lebs }
same_area m Write = write_same m m.next
same_area m Offer = record { geo = refl; lebs = refl }
same_area m End = end_same m m.next
same_area m (Drop ino index) = record { geo = refl; lebs = freed_lnums (dropped_store ino index m) m.lebs }

pub each_geo : (m : Store) (event : Event) → (after event m).geo ≡ m.geo
each_geo m event = (same_area m event).geo

pub each_main : (m : Store) (event : Event) → lnums (after event m).lebs ≡ lnums m.lebs
each_main m event = (same_area m event).lebs
