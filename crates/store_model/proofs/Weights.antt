-- The index weighs no more than the views allow, after each event too.
use Rattle.std.proofs.Common.{◌≡◌, ◌≤◌, ◌+◌, ◌∙◌, ℕ, arith, List, [], ◌∷◌, length, length-append, map, refl, subst, sym, Option, Some, None}
use Rattle.std.specs.Prelude.{fold}
use Rattle.std.specs.Option.{option_map}
use Rattle.ubifs_base.specs.declared.raw_geometry.RawGeometry.{RawGeometry}
use Rattle.index_tree.specs.Shape.{shape_weight}
use Rattle.leaf_map.specs.Kept.{Placed}
use Rattle.store_model.specs.Events.{after, after_part, Begin, credit, Drop, End, end_commit, Event, Free, free_victim, granted, in_next, Move, Offer, offered, Open, paid, Part, Payment, Put, put, Putting, Start, Sync, Write, write_index}
use Rattle.store_model.specs.Heads.{with_head_group}
use Rattle.store_model.specs.Invariant.{IsLight, IsStore, OfBoth, OfNext}
use Rattle.store_model.specs.Lebs.{weight_of}
use Rattle.store_model.specs.Legal.{IsLegalEvent, nodes_of_parts}
use Rattle.store_model.specs.Store.{Bud, Carried, Moving, Next, Store, View}
use Rattle.store_model.proofs.BackingCalls.{length_map}

-- a view as it was, to which so many nodes more were put
pub record IsPutTo (n : ℕ) (a b : View) : Type 0 where
  pub shape : b.shape ≡ a.shape
  pub places : b.places ≡ a.places
  pub put : b.put ≡ a.put + n

abbrev pub ArePutTo : ℕ → Option Next → Option Next → Type 0
ArePutTo n None None = Unit {0}
ArePutTo n (Some a) (Some b) = IsPutTo n a.view b.view
ArePutTo n a b = ⊥

light_view : (geo : RawGeometry) (old new n : ℕ) (a b : View) → new ≤ old + n → IsPutTo n a b → old ≤ weight_of geo a → new ≤ weight_of geo b
light_view geo old new n a b more is h = let put = is.put in rw is.shape (omega (arith, more, put, h))

-- an index that grew by as much as was put
record HasGrown (m k : Store) (n : ℕ) : Type 0 where
  geo : k.geo ≡ m.geo
  index : shape_weight m.geo.fanout k.index.shape ≤ shape_weight m.geo.fanout m.index.shape + n
  now : IsPutTo n m.now k.now
  next : ArePutTo n m.next k.next

light_both : (m k : Store) (n : ℕ) → HasGrown m k n → OfBoth m (IsLight m) → OfBoth k (IsLight k)
light_both m k n g w = (of m.now k.now g.now w.0, by m.next k.next g.next w.1)
  where
    of : (a b : View) → IsPutTo n a b → shape_weight m.geo.fanout m.index.shape ≤ weight_of m.geo a → shape_weight k.geo.fanout k.index.shape ≤ weight_of k.geo b
    of a b is h =
        subst (λ (geo : RawGeometry). shape_weight geo.fanout k.index.shape ≤ weight_of geo b) (sym g.geo)
        (light_view m.geo (shape_weight m.geo.fanout m.index.shape) (shape_weight m.geo.fanout k.index.shape) n a b g.index is h)

    by : (a b : Option Next) → ArePutTo n a b → OfNext m a (IsLight m) → OfNext k b (IsLight k)
    by None None are h = tt
    by None (Some b) are h = absurd are
    by (Some a) None are h = absurd are
    by (Some a) (Some b) are h = of a.view b.view are h

pub self : (view : View) → IsPutTo 0 view view
self view = record { shape = refl; places = refl; put = omega arith }

pub selves : (next : Option Next) → ArePutTo 0 next next
selves None = tt
selves (Some next) = self next.view

pub changed : (change : List Bud → List Bud) (n : ℕ) (next : Option Next) → ArePutTo n next (option_map (in_next change n) next)
changed change n None = tt
changed change n (Some next) = record { shape = refl; places = refl; put = refl }

-- ---- a put
put_then : (n k : ℕ) (a b c : View) → IsPutTo n a b → IsPutTo k b c → IsPutTo (n + k) a c
put_then n k a b c h g = record { shape = g.shape ∙ h.shape; places = g.places ∙ h.places; put = let x = h.put in let y = g.put in omega (arith, x, y) }

all_then : (n k : ℕ) (a b c : Option Next) → ArePutTo n a b → ArePutTo k b c → ArePutTo (n + k) a c
all_then n k None None None h g = tt
all_then n k (Some a) (Some b) (Some c) h g = put_then n k a.view b.view c.view h g
all_then n k None (Some b) c h g = absurd h
all_then n k (Some a) None c h g = absurd h
all_then n k None None (Some c) h g = absurd g
all_then n k (Some a) (Some b) None h g = absurd g

pub record ArePut (m k : Store) (n : ℕ) : Type 0 where
  pub geo : k.geo ≡ m.geo
  pub now : IsPutTo n m.now k.now
  pub next : ArePutTo n m.next k.next

pub parts_put : (parts : List Part) (m : Store) → ArePut m (fold after_part m parts) (length (nodes_of_parts parts))
parts_put [] m = record { geo = refl; now = self m.now; next = selves m.next }
parts_put (part ∷ parts) m =
    let k : Store = after_part m part in
    let last : Store = fold after_part k parts in
    let rest = parts_put parts k in
    let group : List Placed = map (λ c. c.placed) part.group in
    let count : length part.group + length (nodes_of_parts parts) ≡ length (nodes_of_parts (part ∷ parts)) = let a = length-append group (nodes_of_parts parts) in let b = length_map (λ (c : Carried). c.placed) part.group in omega (arith, a, b) in
    record {
      geo = rest.geo;
      now = subst (λ (n : ℕ). IsPutTo n m.now last.now) count (put_then (length part.group) (length (nodes_of_parts parts)) m.now k.now last.now (record { shape = refl; places = refl; put = refl }) rest.now);
      next = subst (λ (n : ℕ). ArePutTo n m.next last.next) count (all_then (length part.group) (length (nodes_of_parts parts)) m.next k.next last.next (changed (with_head_group part.head part.group) (length part.group) m.next) rest.next);
    }

put_light : (m : Store) (p : Putting) → shape_weight m.geo.fanout p.index.shape ≤ shape_weight m.geo.fanout m.index.shape + length (nodes_of_parts p.parts) → OfBoth m (IsLight m) → OfBoth (put p m) (IsLight (put p m))
put_light m p more w = by p.payment (parts_put p.parts m)
  where
    end : Store
    end = fold after_part m p.parts

    n : ℕ
    n = length (nodes_of_parts p.parts)

    by : (payment : Payment) → ArePut m end n → OfBoth (record (paid payment end) { index = p.index }) (IsLight (record (paid payment end) { index = p.index }))
    by credit are = light_both m (record (paid credit end) { index = p.index }) n (record { geo = are.geo; index = more; now = are.now; next = are.next }) w
    by granted are = light_both m (record (paid granted end) { index = p.index }) n (record { geo = are.geo; index = more; now = are.now; next = are.next }) w

-- ---- others
same_light : (m k : Store) → k.geo ≡ m.geo → shape_weight m.geo.fanout k.index.shape ≤ shape_weight m.geo.fanout m.index.shape → IsPutTo 0 m.now k.now → ArePutTo 0 m.next k.next → OfBoth m (IsLight m) → OfBoth k (IsLight k)
same_light m k geo index now next w = light_both m k 0 (record { geo = geo; index = omega (arith, index); now = now; next = next }) w

free_light : (m : Store) (moving : Option Moving) → OfBoth m (IsLight m) → OfBoth (free_victim m moving) (IsLight (free_victim m moving))
free_light m None w = w
free_light m (Some moving) w = same_light m (free_victim m (Some moving)) refl (omega arith) (self m.now) (selves m.next) w

write_light : (m : Store) (next : Option Next) → m.next ≡ next → OfBoth m (IsLight m) → OfBoth (write_index m next) (IsLight (write_index m next))
write_light m None e w = w
write_light m (Some next) e w = (w.0, subst (λ (o : Option Next). OfNext m o (IsLight m)) e w.1)

pub offer_next : (next : Option Next) → ArePutTo 0 next (option_map offered next)
offer_next None = tt
offer_next (Some next) = self next.view

end_light : (m : Store) (next : Option Next) → m.next ≡ next → OfBoth m (IsLight m) → OfBoth (end_commit m next) (IsLight (end_commit m next))
end_light m None e w = w
end_light m (Some next) e w = (subst (λ (o : Option Next). OfNext m o (IsLight m)) e w.1, tt)

pub each_light : (m : Store) (event : Event) → IsLegalEvent m event → IsStore m → OfBoth (after event m) (IsLight (after event m))
each_light m (Put p) can s = put_light m p can.index.weight s.weight
each_light m (Open head lnum) can s = same_light m (after (Open head lnum) m) refl (omega arith) (record { shape = refl; places = refl; put = refl }) (changed _ 0 m.next) s.weight
each_light m Sync can s = same_light m (after Sync m) refl (omega arith) (self m.now) (selves m.next) s.weight
each_light m (Begin victim) can s = same_light m (after (Begin victim) m) refl (omega arith) (self m.now) (selves m.next) s.weight
each_light m (Move c) can s = let more = can.index.weight in same_light m (after (Move c) m) refl (omega (arith, more)) (record { shape = refl; places = refl; put = refl }) (changed _ 0 m.next) s.weight
each_light m Free can s = free_light m m.moving s.weight
each_light m (Start taken) can s = (s.weight.0, omega arith)
each_light m Write can s = write_light m m.next refl s.weight
each_light m Offer can s = same_light m (after Offer m) refl (omega arith) (self m.now) (offer_next m.next) s.weight
each_light m End can s = end_light m m.next refl s.weight
each_light m (Drop ino index) can s = let more = can.index_is.weight in same_light m (after (Drop ino index) m) refl (omega (arith, more)) (self m.now) (selves m.next) s.weight
