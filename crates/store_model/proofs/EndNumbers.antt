-- What a commit's end makes of the numbers of admission: each LEB that it took has a node of its index, and all that the old index alone had are empty.
use Rattle.std.proofs.Common.{◌≡◌, ◌≤◌, ◌<◌, ◌+◌, ◌-◌, ◌*◌, ◌/◌, ◌∙◌, ℕ, suc, arith, Bool, true, false, cond, not, List, [], ◌∷◌, length, map, refl, sym, ap, subst, leb-true, leb-false, Option, Some, None}
use Rattle.std.specs.Prelude.{◌==◌, ◌||◌, get_or, nat_le}
use Rattle.std.specs.List.{AllByRecursion, list_all, list_any}
use Rattle.std.proofs.Math.Nat.{div-mul-le_self, mul-div_left}
use Rattle.std.proofs.lemmas.Bool.{and_parts, and_from, eqb-true, eq-eqb, false≢true}
use Rattle.std.proofs.lemmas.Nat.{mul-le}
use Rattle.ubifs_base.specs.declared.raw_geometry.RawGeometry.{RawGeometry}
use Rattle.ubifs_base.specs.Geometry.{index_nodes_per_leb}
use Rattle.media_lpt.specs.declared.leb_kind.LebKind.TheVariants as kind
use Rattle.fs_model.specs.declared.space.Need.{Need}
use Rattle.fs_model.specs.declared.space.Space.{Space}
use Rattle.space_budget.specs.Books.{AreGrantsCovered, next_group_need}
use Rattle.space_budget.specs.BookLaws.{index_nodes-positive}
use Rattle.space_sums.specs.Spaces.{HasRoom, IsAfterCommit, IsNextIndex, IsSettledTwice, with_empty}
use Rattle.store_model.specs.Backing.{book_of}
use Rattle.store_model.specs.Events.{all_places, dirty_count, End, end_commit, taken_place}
use Rattle.store_model.specs.Invariant.{HasAllotted, HasNextIndex, IsAllotted, is_used, IsStore, IsTaking, lebs_taken}
use Rattle.store_model.specs.Lebs.{has_leaf, has_node, has_role, is_among, is_role, IsSettledWith, IsStoreSettled, lent, running_commit_of, space_of}
use Rattle.store_model.specs.Legal.{are_distinct, IfRunning}
use Rattle.store_model.specs.Store.{Leb, Next, IndexNodePlace, Store, View}
use Rattle.store_model.proofs.LebCounts.{count_rows, freed_index, freed_more, row_count}
use Rattle.store_model.proofs.LebEnds.{after_row, after_rows, among_all, ended_store}
use Rattle.store_model.proofs.LebFrees.{freed_rows}
use Rattle.store_model.proofs.LebRows.{all_in, has_one, has_row, IsRowIn, numbers_of, one_role, role_row, Row, rows, to_rows}
use Rattle.store_model.proofs.MainArea.{each_main}
use Rattle.store_model.proofs.NextIndexes.{not_false, turned}
use Rattle.store_model.proofs.RecoveryOrder.{or_left, or_right}
use Rattle.store_model.proofs.SettledSteps.{count_numbers, num_count}

-- ---- each LEB that was taken has a node
grown : (k n : ℕ) → n ≤ k → (k == n) ≡ false → n + 1 ≤ k
grown k n low e = by (nat_le (n + 1) k) refl
  where
    by : (b : Bool) → nat_le (n + 1) k ≡ b → n + 1 ≤ k
    by true f = leb-true (n + 1) k f
    by false f =
        let under = leb-false (n + 1) k f in
        let same : k ≡ n = omega (arith, under, low) in
        absurd (false≢true (sym e ∙ eq-eqb k n same))

node_at : (geo : RawGeometry) (taken : List ℕ) (k n : ℕ) (clean : List (Option IndexNodePlace)) → n ≤ k → k < n + dirty_count clean → has_node (all_places geo taken n clean) (taken_place geo taken k).lnum ≡ true
node_at geo taken k n [] low high = absurd (omega (arith, low, high))
node_at geo taken k n (None ∷ clean) low high = by (λ (above : n + 1 ≤ k). node_at geo taken k (n + 1) clean above (omega (arith, high))) (k == n) refl
  where
    by : (n + 1 ≤ k → has_node (all_places geo taken (n + 1) clean) (taken_place geo taken k).lnum ≡ true) → (b : Bool) → (k == n) ≡ b → has_node (taken_place geo taken n ∷ all_places geo taken (n + 1) clean) (taken_place geo taken k).lnum ≡ true
    by rest true e =
        let same : (taken_place geo taken n).lnum ≡ (taken_place geo taken k).lnum = ap (λ (z : ℕ). (taken_place geo taken z).lnum) (sym (eqb-true k n e)) in
        or_left ((taken_place geo taken n).lnum == (taken_place geo taken k).lnum) (has_node (all_places geo taken (n + 1) clean) (taken_place geo taken k).lnum) (eq-eqb (taken_place geo taken n).lnum (taken_place geo taken k).lnum same)
    by rest false e = or_right ((taken_place geo taken n).lnum == (taken_place geo taken k).lnum) (has_node (all_places geo taken (n + 1) clean) (taken_place geo taken k).lnum) (rest (grown k n low e))
node_at geo taken k n (Some place ∷ clean) low high = or_right (place.lnum == (taken_place geo taken k).lnum) (has_node (all_places geo taken n clean) (taken_place geo taken k).lnum) (node_at geo taken k n clean low high)

first_node : (i d per : ℕ) → 0 < per → i < (d + per - 1) / per → i * per < d
first_node i d per some low =
    let under = div-mul-le_self (d + per - 1) per in
    let more : (i + 1) * per ≤ (d + per - 1) / per * per = mul-le (i + 1) per ((d + per - 1) / per) per (omega (arith, low)) (omega arith) in
    let spread : (i + 1) * per ≡ i * per + per = omega arith in
    omega (arith, under, more, spread, some)

get_node : (geo : RawGeometry) (next : Next) → 0 < index_nodes_per_leb geo → IsAllotted geo next → (i : ℕ) → i < length next.taken → has_node next.view.places (get_or next.taken i 0) ≡ true
get_node geo next some a i low =
    let per : ℕ = index_nodes_per_leb geo in
    let first = first_node i (dirty_count a.clean) (index_nodes_per_leb geo) some (subst (λ (z : ℕ). i < z) a.lebs low) in
    let here : has_node (all_places geo next.taken 0 a.clean) (get_or next.taken (i * index_nodes_per_leb geo / index_nodes_per_leb geo) 0) ≡ true = node_at geo next.taken (i * index_nodes_per_leb geo) 0 a.clean (omega arith) (omega (arith, first)) in
    subst (λ (places : List IndexNodePlace). has_node places (get_or next.taken i 0) ≡ true) (sym a.places)
    (subst (λ (z : ℕ). has_node (all_places geo next.taken 0 a.clean) (get_or next.taken z 0) ≡ true) (mul-div_left i some) here)

all_get : (test : ℕ → Bool) (numbers : List ℕ) → ((i : ℕ) → i < length numbers → test (get_or numbers i 0) ≡ true) → list_all test numbers ≡ true
all_get test [] h = refl
all_get test (n ∷ numbers) h = and_from (test n) (list_all test numbers) (h 0 (omega arith)) (all_get test numbers (λ i low. h (suc i) (omega (arith, low))))

taken_nodes : (m : Store) (next : Next) → IsStore m → IsAllotted m.geo next → list_all (has_node next.view.places) next.taken ≡ true
taken_nodes m next s a = all_get (has_node next.view.places) next.taken (get_node m.geo next (index_nodes-positive m.geo s.geometry) a)

-- ---- as many LEBs have the role as are listed
num_there : (k : ℕ) (numbers : List ℕ) → list_any (λ j. j == k) numbers ≡ true → 1 ≤ num_count (λ n. k == n) numbers
num_there k [] h = absurd (false≢true h)
num_there k (n ∷ numbers) h = by (num_there k numbers) (n == k) refl h
  where
    by : (list_any (λ j. j == k) numbers ≡ true → 1 ≤ num_count (λ n. k == n) numbers) → (b : Bool) → (n == k) ≡ b → (b || list_any (λ j. j == k) numbers) ≡ true → 1 ≤ cond (k == n) (1 + num_count (λ n. k == n) numbers) (num_count (λ n. k == n) numbers)
    by rest true e h = subst (λ (b : Bool). 1 ≤ cond b (1 + num_count (λ n. k == n) numbers) (num_count (λ n. k == n) numbers)) (sym (turned k n ∙ e)) (omega arith)
    by rest false e h = subst (λ (b : Bool). 1 ≤ cond b (1 + num_count (λ n. k == n) numbers) (num_count (λ n. k == n) numbers)) (sym (turned k n ∙ e)) (rest h)

-- of tests that no number passes both
num_both : (p q : ℕ → Bool) (numbers : List ℕ) → ((n : ℕ) → p n ≡ true → q n ≡ false) → num_count p numbers + num_count q numbers ≤ num_count (λ n. p n || q n) numbers
num_both p q [] away = omega arith
num_both p q (n ∷ numbers) away = by (num_both p q numbers away) (p n) (q n) refl refl
  where
    by : num_count p numbers + num_count q numbers ≤ num_count (λ n. p n || q n) numbers → (a b : Bool) → p n ≡ a → q n ≡ b
        → cond a (1 + num_count p numbers) (num_count p numbers) + cond b (1 + num_count q numbers) (num_count q numbers) ≤ cond (a || b) (1 + num_count (λ n. p n || q n) numbers) (num_count (λ n. p n || q n) numbers)
    by rest true true e g = absurd (false≢true (sym (away n e) ∙ g))
    by rest true false e g = omega (arith, rest)
    by rest false true e g = omega (arith, rest)
    by rest false false e g = rest

num_listed : (taken numbers : List ℕ) → are_distinct taken ≡ true → list_all (λ k. list_any (λ j. j == k) numbers) taken ≡ true → length taken ≤ num_count (is_among taken) numbers
num_listed [] numbers d h = omega arith
num_listed (k ∷ taken) numbers d h =
    let p = and_parts (not (list_any (λ j. j == k) taken)) (are_distinct taken) d in
    let q = and_parts (list_any (λ j. j == k) numbers) (list_all (λ k. list_any (λ j. j == k) numbers) taken) h in
    let none : is_among taken k ≡ false = not_false (is_among taken k) p.0 in
    let both = num_both (λ n. k == n) (is_among taken) numbers (λ n e. subst (λ (z : ℕ). is_among taken z ≡ false) (eqb-true k n e) none) in
    let one = num_there k numbers q.0 in
    let rest = num_listed taken numbers p.1 q.1 in
    omega (arith, both, one, rest)

num_taken : (taken : List ℕ) (all rs : List Row) → are_distinct (numbers_of all) ≡ true → list_all (has_row kind.Taken all) taken ≡ true → AllByRecursion (IsRowIn all) rs → num_count (is_among taken) (numbers_of rs) ≤ row_count kind.Taken rs
num_taken taken all [] d h at = omega arith
num_taken taken all (r ∷ rs) d h at = by (num_taken taken all rs d h at.1) (is_among taken r.0) refl (is_role kind.Taken r.1) refl
  where
    by : num_count (is_among taken) (numbers_of rs) ≤ row_count kind.Taken rs → (a : Bool) → is_among taken r.0 ≡ a → (b : Bool) → is_role kind.Taken r.1 ≡ b
        → cond a (1 + num_count (is_among taken) (numbers_of rs)) (num_count (is_among taken) (numbers_of rs)) ≤ cond b (1 + row_count kind.Taken rs) (row_count kind.Taken rs)
    by rest true e true g = omega (arith, rest)
    by rest true e false g = absurd (false≢true (sym g ∙ sym (ap (is_role kind.Taken) (one_role kind.Taken r.1 all r.0 d (among_all (has_row kind.Taken all) taken r.0 h e) at.0))))
    by rest false e true g = omega (arith, rest)
    by rest false e false g = rest

-- ---- the rows at the end
-- each row of the index has a node then
end_nodes : (m : Store) (next : Next) (rs : List Row) → m.next ≡ Some next → list_all (has_node next.view.places) next.taken ≡ true → list_all (λ r. is_used m r.0 r.1) rs ≡ true
    → row_count kind.Index (map (after_row next.view) rs) ≤ num_count (has_node next.view.places) (numbers_of rs)
end_nodes m next [] e t h = omega arith
end_nodes m next (r ∷ rs) e t h = let p = and_parts (is_used m r.0 r.1) (list_all (λ r. is_used m r.0 r.1) rs) h in by r p.0 (end_nodes m next rs e t p.1)
  where
    skip : (b : Bool) (k n : ℕ) → k ≤ n → k ≤ cond b (1 + n) n
    skip true k n h = omega (arith, h)
    skip false k n h = h

    by : (r : Row) → is_used m r.0 r.1 ≡ true → row_count kind.Index (map (after_row next.view) rs) ≤ num_count (has_node next.view.places) (numbers_of rs)
        → row_count kind.Index (map (after_row next.view) (r ∷ rs)) ≤ num_count (has_node next.view.places) (numbers_of (r ∷ rs))
    by (n, kind.Free) u rest = skip (has_node next.view.places n) (row_count kind.Index (map (after_row next.view) rs)) (num_count (has_node next.view.places) (numbers_of rs)) rest
    by (n, kind.Leaf) u rest = skip (has_node next.view.places n) (row_count kind.Index (map (after_row next.view) rs)) (num_count (has_node next.view.places) (numbers_of rs)) rest
    by (n, kind.Index) u rest = of (has_node next.view.places n)
      where
        of : (b : Bool) → row_count kind.Index (cond {A = Row} b (n, kind.Index) (n, kind.Free) ∷ map (after_row next.view) rs) ≤ cond b (1 + num_count (has_node next.view.places) (numbers_of rs)) (num_count (has_node next.view.places) (numbers_of rs))
        of true = omega (arith, rest)
        of false = rest
    by (n, kind.Bud) u rest = skip (has_node next.view.places n) (row_count kind.Index (map (after_row next.view) ((n, kind.Bud) ∷ rs))) (num_count (has_node next.view.places) (numbers_of rs)) (of (list_any (λ bud. bud.lnum == n) next.view.buds))
      where
        of : (b : Bool) → row_count kind.Index (cond {A = Row} b (n, kind.Bud) (n, kind.Leaf) ∷ map (after_row next.view) rs) ≤ num_count (has_node next.view.places) (numbers_of rs)
        of true = rest
        of false = rest
    by (n, kind.Taken) u rest =
        let among : is_among next.taken n ≡ true = subst (λ (o : Option Next). is_among (lebs_taken o) n ≡ true) e (and_parts (not (has_leaf m n)) (is_among (lebs_taken m.next) n) u).1 in
        let has : has_node next.view.places n ≡ true = among_all (has_node next.view.places) next.taken n t among in
        subst (λ (b : Bool). 1 + row_count kind.Index (map (after_row next.view) rs) ≤ cond b (1 + num_count (has_node next.view.places) (numbers_of rs)) (num_count (has_node next.view.places) (numbers_of rs))) (sym has) (omega (arith, rest))

-- empty ones and those of the index are as many as before, with those that were taken
end_both : (view : View) (rs : List Row) → row_count kind.Free (map (after_row view) rs) + row_count kind.Index (map (after_row view) rs) ≡ row_count kind.Free rs + row_count kind.Index rs + row_count kind.Taken rs
end_both view [] = refl
end_both view ((n, kind.Free) ∷ rs) = let rest = end_both view rs in omega (arith, rest)
end_both view ((n, kind.Leaf) ∷ rs) = end_both view rs
end_both view ((n, kind.Taken) ∷ rs) = let rest = end_both view rs in omega (arith, rest)
end_both view ((n, kind.Index) ∷ rs) = by (has_node view.places n) (end_both view rs)
  where
    by : (b : Bool) → row_count kind.Free (map (after_row view) rs) + row_count kind.Index (map (after_row view) rs) ≡ row_count kind.Free rs + row_count kind.Index rs + row_count kind.Taken rs
        → row_count kind.Free (cond {A = Row} b (n, kind.Index) (n, kind.Free) ∷ map (after_row view) rs) + row_count kind.Index (cond {A = Row} b (n, kind.Index) (n, kind.Free) ∷ map (after_row view) rs)
        ≡ row_count kind.Free rs + (1 + row_count kind.Index rs) + row_count kind.Taken rs
    by true rest = omega (arith, rest)
    by false rest = omega (arith, rest)
end_both view ((n, kind.Bud) ∷ rs) = by (list_any (λ bud. bud.lnum == n) view.buds) (end_both view rs)
  where
    by : (b : Bool) → row_count kind.Free (map (after_row view) rs) + row_count kind.Index (map (after_row view) rs) ≡ row_count kind.Free rs + row_count kind.Index rs + row_count kind.Taken rs
        → row_count kind.Free (cond {A = Row} b (n, kind.Bud) (n, kind.Leaf) ∷ map (after_row view) rs) + row_count kind.Index (cond {A = Row} b (n, kind.Bud) (n, kind.Leaf) ∷ map (after_row view) rs)
        ≡ row_count kind.Free rs + row_count kind.Index rs + row_count kind.Taken rs
    by true rest = rest
    by false rest = rest

-- ---- the numbers
-- what an end leaves: no more LEBs of the index than were reckoned with, and no LEB of those that were empty, the index's or taken is lost
record HasEnded (m : Store) (next : Next) : Type 0 where
  index : (space_of (end_commit m (Some next))).index ≤ (running_commit_of m next).lebs
  both : (space_of m).empty + (space_of m).index + length next.taken ≤ (space_of (end_commit m (Some next))).empty + (space_of (end_commit m (Some next))).index

ended_numbers : (m : Store) (next : Next) → m.next ≡ Some next → IsStore m → HasEnded m next
ended_numbers m next e s =
    let k : Store = ended_store m next in
    let rs : List Row = rows m.lebs in
    let t : IsTaking m (Some next) = subst (λ (o : Option Next). IsTaking m o) e s.taking in
    let a : IsAllotted m.geo next = subst (λ (o : Option Next). HasAllotted m.geo o) e s.allotted in
    let r = to_rows m s.apart in
    let nodes = end_nodes m next (rows m.lebs) e (taken_nodes m next s a) r.used in
    let lebs = count_numbers (has_node next.view.places) m.lebs in
    let both = end_both next.view (rows m.lebs) in
    let index = count_rows kind.Index (end_commit m (Some next)).lebs ∙ ap (row_count kind.Index) (freed_rows k k.lebs) ∙ freed_index k (rows k.lebs) ∙ ap (row_count kind.Index) (after_rows next.view m.lebs) in
    let empty = count_rows kind.Free (end_commit m (Some next)).lebs ∙ ap (row_count kind.Free) (freed_rows k k.lebs) in
    let more = freed_more k (rows k.lebs) in
    let free = ap (row_count kind.Free) (after_rows next.view m.lebs) in
    let old_empty = count_rows kind.Free m.lebs in
    let old_index = count_rows kind.Index m.lebs in
    let roles : list_all (has_row kind.Taken (rows m.lebs)) next.taken ≡ true = weaker next.taken t.0 in
    let listed = num_listed next.taken (numbers_of (rows m.lebs)) t.5 (numbers next.taken roles) in
    let took = num_taken next.taken (rows m.lebs) (rows m.lebs) r.numbers roles (all_in (rows m.lebs)) in
    record { index = omega (arith, nodes, lebs, index); both = omega (arith, both, index, empty, more, free, old_empty, old_index, listed, took) }
  where
    weaker : (taken : List ℕ) → list_all (has_role kind.Taken m.lebs) taken ≡ true → list_all (has_row kind.Taken (rows m.lebs)) taken ≡ true
    weaker [] h = refl
    weaker (n ∷ taken) h = let p = and_parts (has_role kind.Taken m.lebs n) (list_all (has_role kind.Taken m.lebs) taken) h in and_from (has_row kind.Taken (rows m.lebs) n) (list_all (has_row kind.Taken (rows m.lebs)) taken) (sym (role_row kind.Taken m.lebs n) ∙ p.0) (weaker taken p.1)

    numbers : (taken : List ℕ) → list_all (has_row kind.Taken (rows m.lebs)) taken ≡ true → list_all (λ k. list_any (λ j. j == k) (numbers_of (rows m.lebs))) taken ≡ true
    numbers [] h = refl
    numbers (n ∷ taken) h =
        let p = and_parts (has_row kind.Taken (rows m.lebs) n) (list_all (has_row kind.Taken (rows m.lebs)) taken) h in
        and_from (list_any (λ j. j == n) (numbers_of (rows m.lebs))) (list_all (λ k. list_any (λ j. j == k) (numbers_of (rows m.lebs))) taken) (has_one kind.Taken (rows m.lebs) n p.0) (numbers taken p.1)

pub end_settled : (m : Store) (next : Option Next) → m.next ≡ next → IfRunning m (λ next. next.offered ≡ true) → IsStore m → IsStoreSettled (end_commit m next)
end_settled m None e can s = absurd (rw e at can)
end_settled m (Some next) e can s =
    let is : IsSettledTwice m.geo (running_commit_of m next) (with_empty (lent m.moving) (space_of m)) = subst (λ (o : Option Next). IsSettledWith m (with_empty (lent m.moving) (space_of m)) o) e s.settled in
    let end = is.end in
    let a = end.empty in
    let b = end.index in
    let n = ended_numbers m next e s in
    let index = n.index in
    let both = n.both in
    record { empty = omega (arith, a, b, index, both); index = omega (arith, a, b, index, both) }

map_long : (lebs : List Leb) → length (map (λ leb. leb.lnum) lebs) ≡ length lebs
map_long [] = refl
map_long (leb ∷ lebs) = ap (λ (n : ℕ). suc n) (map_long lebs)

pub end_covered : ((geo : RawGeometry) (old new : Space) (need : Need) → IsAfterCommit geo old new → HasRoom geo old need → HasRoom geo new need) → (m : Store) (next : Option Next) → m.next ≡ next → IfRunning m (λ next. next.offered ≡ true) → IsStore m
    → AreGrantsCovered (book_of (end_commit m next))
end_covered law m None e can s = absurd (rw e at can)
end_covered law m (Some next) e can s =
    let small : IsNextIndex m.geo (running_commit_of m next) (space_of m) = subst (λ (o : Option Next). HasNextIndex m o) e s.next_index in
    let lebs = small.lebs in
    let index = (ended_numbers m next e s).index in
    let long : length (end_commit m (Some next)).lebs ≡ length m.lebs = sym (map_long (end_commit m (Some next)).lebs) ∙ ap (λ (ns : List ℕ). length ns) (subst (λ (o : Option Next). map (λ leb. leb.lnum) (end_commit m o).lebs ≡ map (λ leb. leb.lnum) m.lebs) e (each_main m End)) ∙ map_long m.lebs in
    record { room = law m.geo (space_of m) (space_of (end_commit m (Some next))) (next_group_need m.grant) (record { bytes = omega arith; credits = refl; index = omega (arith, lebs, index); weight = small.weight; main = long }) s.covered.room }
