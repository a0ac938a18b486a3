-- A running commit's index has no more LEBs than twice what the store's weight asks for, and weighs no more than the store does.
use Rattle.std.proofs.Common.{◌≡◌, ◌≤◌, ◌<◌, ◌+◌, ◌-◌, ◌*◌, ◌/◌, ◌∙◌, ℕ, arith, Bool, true, false, cond, not, List, [], ◌∷◌, length, map, refl, sym, ap, subst, leb-true, Option, Some, None, inl, inr, ◌⊎◌}
use Rattle.std.specs.Prelude.{◌==◌, ◌||◌, count_by, fold, nat_le}
use Rattle.std.specs.List.{AllByRecursion, list_all, list_any}
use Rattle.std.specs.Option.{option_map_or}
use Rattle.std.proofs.Math.Nat.{div-mul-le_self}
use Rattle.std.proofs.lemmas.Bool.{and_parts, eqb-true, false≢true}
use Rattle.std.proofs.lemmas.Bool.Decides.{nat_tests}
use Rattle.std.proofs.lemmas.Nat.{le-div}
use Rattle.ubifs_base.specs.declared.raw_geometry.RawGeometry.{RawGeometry}
use Rattle.ubifs_base.specs.Geometry.{index_nodes_per_leb}
use Rattle.media_lpt.specs.declared.leb_kind.LebKind.TheVariants as kind
use Rattle.index_tree.specs.Shape.{done, leaf, node, node_count, Shape, shape_weight}
use Rattle.fs_model.specs.Cover.{index_lebs}
use Rattle.space_budget.specs.BookLaws.{index_nodes-positive}
use Rattle.space_sums.specs.Spaces.{IsNextIndex}
use Rattle.store_model.specs.Events.{after, after_part, all_places, Begin, clean_places, credit, dirty_count, Drop, End, end_commit, Event, Free, free_victim, granted, Move, Offer, Open, paid, Payment, Put, put, Putting, start, Start, Sync, Write, write_index}
use Rattle.store_model.specs.Indexed.{committed_index}
use Rattle.store_model.specs.Invariant.{HasNextIndex, IsStore}
use Rattle.store_model.specs.Lebs.{has_node, has_role, is_among, is_role, running_commit_of, space_of, weight_of}
use Rattle.store_model.specs.Legal.{are_distinct, CanStart, IsLegalEvent, KeepPlaces, nodes_of_parts}
use Rattle.store_model.specs.Store.{Leb, Moving, Next, IndexNodePlace, Store, View}
use Rattle.store_model.proofs.LebCounts.{count_rows, row_count}
use Rattle.store_model.proofs.LebRows.{all_in, has_row, IsRowIn, numbers_kept, numbers_of, one_role, role_row, Row, rows, to_rows}
use Rattle.store_model.proofs.LebStarts.{take_number, take_row, take_rows}
use Rattle.store_model.proofs.MainArea.{each_geo, each_main}
use Rattle.store_model.proofs.RecoveryCopies.{either_of}
use Rattle.store_model.proofs.SettledSteps.{count_numbers, num_count}
use Rattle.store_model.proofs.TakingStarts.{all_dirty, kept_pass, none_placed, places_taken}
use Rattle.store_model.proofs.Weights.{ArePut, ArePutTo, changed, IsPutTo, offer_next, parts_put, self, selves}
use Rattle.store_model.specs.WrittenNodes.{rows_of}

-- ---- how many numbers pass a test
pub num_less : (p q : ℕ → Bool) → ((n : ℕ) → p n ≡ true → q n ≡ true) → (numbers : List ℕ) → num_count p numbers ≤ num_count q numbers
num_less p q more [] = omega arith
num_less p q more (n ∷ numbers) = by (num_less p q more numbers) (p n) (q n) refl refl
  where
    by : num_count p numbers ≤ num_count q numbers → (a b : Bool) → p n ≡ a → q n ≡ b → cond a (1 + num_count p numbers) (num_count p numbers) ≤ cond b (1 + num_count q numbers) (num_count q numbers)
    by rest true true e g = omega (arith, rest)
    by rest true false e g = absurd (false≢true (sym g ∙ more n e))
    by rest false true e g = omega (arith, rest)
    by rest false false e g = rest

pub num_either : (p q : ℕ → Bool) (numbers : List ℕ) → num_count (λ n. p n || q n) numbers ≤ num_count p numbers + num_count q numbers
num_either p q [] = omega arith
num_either p q (n ∷ numbers) = by (num_either p q numbers) (p n) (q n)
  where
    by : num_count (λ n. p n || q n) numbers ≤ num_count p numbers + num_count q numbers → (a b : Bool)
        → cond (a || b) (1 + num_count (λ n. p n || q n) numbers) (num_count (λ n. p n || q n) numbers) ≤ cond a (1 + num_count p numbers) (num_count p numbers) + cond b (1 + num_count q numbers) (num_count q numbers)
    by rest true true = omega (arith, rest)
    by rest true false = omega (arith, rest)
    by rest false true = omega (arith, rest)
    by rest false false = rest

num_nothing : (numbers : List ℕ) → num_count (λ n. false) numbers ≡ 0
num_nothing [] = refl
num_nothing (n ∷ numbers) = num_nothing numbers

pub turned : (m n : ℕ) → (m == n) ≡ (n == m)
turned m n = grind (arith, nat_tests)

pub num_none : (k : ℕ) (numbers : List ℕ) → list_any (λ j. j == k) numbers ≡ false → num_count (λ n. k == n) numbers ≡ 0
num_none k [] h = refl
num_none k (n ∷ numbers) h = by (num_none k numbers) (n == k) refl h
  where
    by : (list_any (λ j. j == k) numbers ≡ false → num_count (λ n. k == n) numbers ≡ 0) → (b : Bool) → (n == k) ≡ b → (b || list_any (λ j. j == k) numbers) ≡ false → num_count (λ n. k == n) (n ∷ numbers) ≡ 0
    by rest true e h = absurd (false≢true (sym h))
    by rest false e h = ap (λ (b : Bool). cond b (1 + num_count (λ n. k == n) numbers) (num_count (λ n. k == n) numbers)) (turned k n ∙ e) ∙ rest h

pub not_false : (a : Bool) → not a ≡ true → a ≡ false
not_false true h = absurd (false≢true h)
not_false false h = refl

num_one : (k : ℕ) (numbers : List ℕ) → are_distinct numbers ≡ true → num_count (λ n. k == n) numbers ≤ 1
num_one k [] d = omega arith
num_one k (n ∷ numbers) d = let p = and_parts (not (list_any (λ j. j == n) numbers)) (are_distinct numbers) d in by (num_one k numbers p.1) p.0 (k == n) refl
  where
    by : num_count (λ n. k == n) numbers ≤ 1 → not (list_any (λ j. j == n) numbers) ≡ true → (b : Bool) → (k == n) ≡ b → cond b (1 + num_count (λ n. k == n) numbers) (num_count (λ n. k == n) numbers) ≤ 1
    by rest none true e =
        let away : list_any (λ j. j == k) numbers ≡ false = subst (λ (z : ℕ). list_any (λ j. j == z) numbers ≡ false) (sym (eqb-true k n e)) (not_false (list_any (λ j. j == n) numbers) none) in
        let zero = num_none k numbers away in
        omega (arith, zero)
    by rest none false e = rest

pub num_among : (taken numbers : List ℕ) → are_distinct numbers ≡ true → num_count (is_among taken) numbers ≤ length taken
num_among [] numbers d = let zero = num_nothing numbers in omega (arith, zero)
num_among (k ∷ taken) numbers d =
    let both = num_either (λ n. k == n) (is_among taken) numbers in
    let one = num_one k numbers d in
    let rest = num_among taken numbers d in
    omega (arith, both, one, rest)

-- ---- LEBs of the index
num_roles : (all rs : List Row) → are_distinct (numbers_of all) ≡ true → AllByRecursion (IsRowIn all) rs → num_count (has_row kind.Index all) (numbers_of rs) ≤ row_count kind.Index rs
num_roles all [] d at = omega arith
num_roles all (r ∷ rs) d at = by (num_roles all rs d at.1) (has_row kind.Index all r.0) refl (is_role kind.Index r.1) refl
  where
    by : num_count (has_row kind.Index all) (numbers_of rs) ≤ row_count kind.Index rs → (a : Bool) → has_row kind.Index all r.0 ≡ a → (b : Bool) → is_role kind.Index r.1 ≡ b
        → cond a (1 + num_count (has_row kind.Index all) (numbers_of rs)) (num_count (has_row kind.Index all) (numbers_of rs)) ≤ cond b (1 + row_count kind.Index rs) (row_count kind.Index rs)
    by rest true e true g = omega (arith, rest)
    by rest true e false g = absurd (false≢true (sym g ∙ sym (ap (is_role kind.Index) (one_role kind.Index r.1 all r.0 d e at.0))))
    by rest false e true g = omega (arith, rest)
    by rest false e false g = rest

num_index : (m : Store) → are_distinct (numbers_of (rows m.lebs)) ≡ true → num_count (has_role kind.Index m.lebs) (numbers_of (rows m.lebs)) ≤ (space_of m).index
num_index m d =
    let less = num_less (has_role kind.Index m.lebs) (has_row kind.Index (rows m.lebs)) (λ n h. sym (role_row kind.Index m.lebs n) ∙ h) (numbers_of (rows m.lebs)) in
    let roles = num_roles (rows m.lebs) (rows m.lebs) d (all_in (rows m.lebs)) in
    let count = count_rows kind.Index m.lebs in
    omega (arith, less, roles, count)

-- where a node stands is one of these LEBs
node_in : (test : ℕ → Bool) (places : List IndexNodePlace) (n : ℕ) → list_all (λ place. test place.lnum) places ≡ true → has_node places n ≡ true → test n ≡ true
node_in test [] n h i = absurd (false≢true i)
node_in test (place ∷ places) n h i = let p = and_parts (test place.lnum) (list_all (λ place. test place.lnum) places) h in by p.0 (node_in test places n p.1) (either_of (place.lnum == n) (has_node places n) i)
  where
    by : test place.lnum ≡ true → (has_node places n ≡ true → test n ≡ true) → ((place.lnum == n) ≡ true) ⊎ (has_node places n ≡ true) → test n ≡ true
    by first rest (inl e) = subst (λ (z : ℕ). test z ≡ true) (eqb-true place.lnum n e) first
    by first rest (inr e) = rest e

num_places : (test : ℕ → Bool) (taken : List ℕ) (places : List IndexNodePlace) (numbers : List ℕ) → are_distinct numbers ≡ true → list_all (λ place. test place.lnum || is_among taken place.lnum) places ≡ true
    → num_count (has_node places) numbers ≤ num_count test numbers + length taken
num_places test taken places numbers d h =
    let less = num_less (has_node places) (λ n. test n || is_among taken n) (λ n i. node_in (λ n. test n || is_among taken n) places n h i) numbers in
    let both = num_either test (is_among taken) numbers in
    let most = num_among taken numbers d in
    omega (arith, less, both, most)

-- ---- weights
nodes_light : (fanout : ℕ) (shape : Shape) → node_count shape ≤ shape_weight fanout shape
nodes_light fanout done = omega arith
nodes_light fanout (leaf x rest) = nodes_light fanout rest
nodes_light fanout (node children rest) =
    let a = nodes_light fanout children in
    let b = nodes_light fanout rest in
    omega (arith, a, b)

grows : (geo : RawGeometry) (a b : ℕ) → 0 < index_nodes_per_leb geo → a ≤ b → index_lebs geo a ≤ index_lebs geo b
grows geo a b some less =
    let under = div-mul-le_self (a + index_nodes_per_leb geo - 1) (index_nodes_per_leb geo) in
    le-div ((a + index_nodes_per_leb geo - 1) / index_nodes_per_leb geo) (b + index_nodes_per_leb geo - 1) (index_nodes_per_leb geo) some (omega (arith, under, less, some))

-- ---- an event of which a running commit's index stays
number_rows : (lebs : List Leb) → numbers_of (rows lebs) ≡ map (λ leb. leb.lnum) lebs
number_rows [] = refl
number_rows (leb ∷ lebs) = ap (λ (ns : List ℕ). leb.lnum ∷ ns) (number_rows lebs)

-- so many nodes were put to both views
record IsPutToBoth (m k : Store) (n : ℕ) : Type 0 where
  some : 0 < index_nodes_per_leb m.geo
  geo : k.geo ≡ m.geo
  lebs : map (λ leb. leb.lnum) k.lebs ≡ map (λ leb. leb.lnum) m.lebs
  now : IsPutTo n m.now k.now

view_weight : (m k : Store) (n : ℕ) (a b : View) → k.geo ≡ m.geo → IsPutTo n a b → weight_of k.geo b ≡ weight_of m.geo a + n
view_weight m k n a b geo is =
    let put = is.put in
    ap (λ (g : RawGeometry). weight_of g b) geo ∙ ap (λ (shape : Shape). shape_weight m.geo.fanout shape + b.put) is.shape ∙ omega (arith, put)

stays_small : (m k : Store) (n : ℕ) (a b : Next) → IsPutToBoth m k n → IsPutTo n a.view b.view → IsNextIndex m.geo (running_commit_of m a) (space_of m) → IsNextIndex k.geo (running_commit_of k b) (space_of k)
stays_small m k n a b y is h =
    let numbers : numbers_of (rows k.lebs) ≡ numbers_of (rows m.lebs) = number_rows k.lebs ∙ y.lebs ∙ sym (number_rows m.lebs) in
    let count : (running_commit_of k b).lebs ≡ (running_commit_of m a).lebs =
    count_numbers (has_node b.view.places) k.lebs ∙ ap (λ (ps : List IndexNodePlace). num_count (has_node ps) (numbers_of (rows k.lebs))) is.places ∙ ap (num_count (has_node a.view.places)) numbers
    ∙ sym (count_numbers (has_node a.view.places) m.lebs) in
    let now : (space_of k).weight ≡ (space_of m).weight + n = view_weight m k n m.now k.now y.geo y.now in
    let then : (running_commit_of k b).weight ≡ (running_commit_of m a).weight + n = view_weight m k n a.view b.view y.geo is in
    let wider : index_lebs m.geo (space_of m).weight ≤ index_lebs m.geo (space_of k).weight = grows m.geo (space_of m).weight (space_of k).weight y.some (omega (arith, now)) in
    let asks : index_lebs k.geo (space_of k).weight ≡ index_lebs m.geo (space_of k).weight = ap (λ (g : RawGeometry). index_lebs g (space_of k).weight) y.geo in
    let lebs = h.lebs in
    let weight = h.weight in
    record { lebs = omega (arith, count, wider, asks, lebs); weight = omega (arith, now, then, weight) }

both_small : (m k : Store) (n : ℕ) (a b : Option Next) → IsPutToBoth m k n → ArePutTo n a b → HasNextIndex m a → HasNextIndex k b
both_small m k n None None y are h = tt
both_small m k n None (Some b) y are h = absurd are
both_small m k n (Some a) None y are h = absurd are
both_small m k n (Some a) (Some b) y are h = stays_small m k n a b y are h

-- ---- a commit starts
-- nodes that have a place stand in LEBs of the committed index
pub nodes_there : (m : Store) → m.next ≡ None → IsStore m → list_all (λ o. option_map_or (λ (place : IndexNodePlace). has_role kind.Index m.lebs place.lnum) o true) m.index.places ≡ true
nodes_there m idle s = kept_pass (has_role kind.Index m.lebs) m.now.shape m.now.places (rows_of m.index.shape) m.index.places
    (subst (λ (o : Option Next). KeepPlaces (committed_index (option_map_or (λ next. next.view) o m.now)) (rows_of m.index.shape) m.index.places) idle s.standing.indexed.last) s.apart.index

start_small : (m : Store) (taken : List ℕ) → 0 < index_nodes_per_leb m.geo → CanStart m taken → IsStore m → HasNextIndex (start taken m) (start taken m).next
start_small m taken some can s = record {
  lebs = counted (all_places m.geo taken 0 (clean_places m)) (by (nat_le ((space_of m).index + index_lebs m.geo (dirty_count m.index.places)) (2 * index_lebs m.geo (space_of m).weight)) refl can.count);
  weight = let light = s.weight.0 in omega (arith, light);
}
  where
    distinct : are_distinct (numbers_of (rows m.lebs)) ≡ true
    distinct = (to_rows m s.apart).numbers

    counted : (places : List IndexNodePlace) → num_count (has_node places) (numbers_of (rows m.lebs)) ≤ 2 * index_lebs m.geo (space_of m).weight → count_by (λ leb. has_node places leb.lnum) (start taken m).lebs ≤ 2 * index_lebs m.geo (space_of m).weight
    counted places small =
        let same = count_numbers (has_node places) (start taken m).lebs ∙ ap (num_count (has_node places)) (ap numbers_of (take_rows taken m.lebs) ∙ numbers_kept (take_row taken) (take_number taken) (rows m.lebs)) in
        subst (λ (z : ℕ). z ≤ 2 * index_lebs m.geo (space_of m).weight) (sym same) small

    by : (b : Bool) → nat_le ((space_of m).index + index_lebs m.geo (dirty_count m.index.places)) (2 * index_lebs m.geo (space_of m).weight) ≡ b
        → length taken ≡ cond b (index_lebs m.geo (dirty_count m.index.places)) (index_lebs m.geo (node_count m.index.shape))
        → num_count (has_node (all_places m.geo taken 0 (cond (not b) (map (λ place. None) m.index.places) m.index.places))) (numbers_of (rows m.lebs)) ≤ 2 * index_lebs m.geo (space_of m).weight
    by true e long =
        let all = places_taken m.geo taken (has_role kind.Index m.lebs) (dirty_count m.index.places) 0 m.index.places some long (omega arith) (nodes_there m can.idle s) in
        let most = num_places (has_role kind.Index m.lebs) taken (all_places m.geo taken 0 m.index.places) (numbers_of (rows m.lebs)) distinct all in
        let index = num_index m distinct in
        let fits = leb-true ((space_of m).index + index_lebs m.geo (dirty_count m.index.places)) (2 * index_lebs m.geo (space_of m).weight) e in
        omega (arith, most, index, fits, long)
    by false e long =
        let dirty = all_dirty m.index.places in
        let places = s.places in
        let anew = none_placed (λ n. false) m.index.places in
        let all = places_taken m.geo taken (λ n. false) (node_count m.index.shape) 0 (map (λ place. None) m.index.places) some long (omega (arith, dirty, places)) anew in
        let most = num_places (λ n. false) taken (all_places m.geo taken 0 (map (λ place. None) m.index.places)) (numbers_of (rows m.lebs)) distinct all in
        let zero = num_nothing (numbers_of (rows m.lebs)) in
        let light = nodes_light m.geo.fanout m.index.shape in
        let weight = s.weight.0 in
        let wider = grows m.geo (node_count m.index.shape) (space_of m).weight some (omega (arith, light, weight)) in
        omega (arith, most, zero, wider, long)

-- ---- each event
put_small : (m : Store) (p : Putting) → 0 < index_nodes_per_leb m.geo → HasNextIndex m m.next → HasNextIndex (put p m) (put p m).next
put_small m p some h = by p.payment (parts_put p.parts m) (each_main m (Put p))
  where
    end : Store
    end = fold after_part m p.parts

    by : (payment : Payment) → ArePut m end (length (nodes_of_parts p.parts)) → map (λ leb. leb.lnum) (record (paid payment end) { index = p.index }).lebs ≡ map (λ leb. leb.lnum) m.lebs
        → HasNextIndex (record (paid payment end) { index = p.index }) (record (paid payment end) { index = p.index }).next
    by credit are lebs = both_small m (record (paid credit end) { index = p.index }) (length (nodes_of_parts p.parts)) m.next end.next (record { some = some; geo = are.geo; lebs = lebs; now = are.now }) are.next h
    by granted are lebs = both_small m (record (paid granted end) { index = p.index }) (length (nodes_of_parts p.parts)) m.next end.next (record { some = some; geo = are.geo; lebs = lebs; now = are.now }) are.next h

same_small : (m : Store) (event : Event) → 0 < index_nodes_per_leb m.geo → IsPutTo 0 m.now (after event m).now → ArePutTo 0 m.next (after event m).next → HasNextIndex m m.next → HasNextIndex (after event m) (after event m).next
same_small m event some now are h = both_small m (after event m) 0 m.next (after event m).next (record { some = some; geo = each_geo m event; lebs = each_main m event; now = now }) are h

free_now : (m : Store) (moving : Option Moving) → IsPutTo 0 m.now (free_victim m moving).now
free_now m None = self m.now
free_now m (Some moving) = self m.now

free_next : (m : Store) (moving : Option Moving) → ArePutTo 0 m.next (free_victim m moving).next
free_next m None = selves m.next
free_next m (Some moving) = selves m.next

write_now : (m : Store) (next : Option Next) → IsPutTo 0 m.now (write_index m next).now
write_now m None = self m.now
write_now m (Some next) = self m.now

write_next : (m : Store) (next : Option Next) → m.next ≡ next → ArePutTo 0 m.next (write_index m next).next
write_next m None e = selves m.next
write_next m (Some next) e = subst (λ (o : Option Next). ArePutTo 0 o (Some (record next { written = next.written + 1 }))) (sym e) (self next.view)

end_small : (m : Store) (next : Option Next) → HasNextIndex m m.next → m.next ≡ next → HasNextIndex (end_commit m next) (end_commit m next).next
end_small m None h e = h
end_small m (Some next) h e = tt

pub each_next_index : (m : Store) (event : Event) → IsLegalEvent m event → IsStore m → HasNextIndex (after event m) (after event m).next
each_next_index m event can s = by event can (index_nodes-positive m.geo s.geometry)
  where
    by : (event : Event) → IsLegalEvent m event → 0 < index_nodes_per_leb m.geo → HasNextIndex (after event m) (after event m).next
    by (Put p) can some = put_small m p some s.next_index
    by (Open head lnum) can some = same_small m (Open head lnum) some (record { shape = refl; places = refl; put = refl }) (changed _ 0 m.next) s.next_index
    by Sync can some = same_small m Sync some (self m.now) (selves m.next) s.next_index
    by (Begin victim) can some = same_small m (Begin victim) some (self m.now) (selves m.next) s.next_index
    by (Move c) can some = same_small m (Move c) some (record { shape = refl; places = refl; put = refl }) (changed _ 0 m.next) s.next_index
    by Free can some = same_small m Free some (free_now m m.moving) (free_next m m.moving) s.next_index
    by (Start taken) can some = start_small m taken some can s
    by Write can some = same_small m Write some (write_now m m.next) (write_next m m.next refl) s.next_index
    by Offer can some = same_small m Offer some (self m.now) (offer_next m.next) s.next_index
    by End can some = end_small m m.next s.next_index refl
    by (Drop ino index) can some = same_small m (Drop ino index) some (self m.now) (selves m.next) s.next_index
