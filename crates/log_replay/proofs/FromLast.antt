-- The index with the leaves where they were found, from the last leaf to the first.
use Rattle.std.proofs.Common.{◌≡◌, ℕ, ◌+◌, ◌≤◌, arith, length, true, false, List, [], ◌∷◌, ◌++◌, map, append_assoc, append-nil, refl, sym, ap, subst, ◌∙◌, Option, Some, None}
use Rattle.std.specs.Prelude.{◌==◌, MatchOption}
use Rattle.std.proofs.lemmas.Bool.{eq-eqb}
use Rattle.std.specs.List.{AllByRecursion}
use Rattle.std.specs.Option.{option_map}
use Rattle.std.proofs.lemmas.Map.Keys.{IsDistinct-cons, IsDistinct-head, IsDistinct-tail}
use Rattle.ubifs_base.specs.declared.key.Key.{Key}
use Rattle.index_tree.specs.declared.leaf.Leaf.{Leaf}
use Rattle.index_tree.specs.Distinct.{AreDistinct}
use Rattle.index_tree.specs.declared.index.Index.{Index}
use Rattle.index_tree.specs.Order.{leaf_rank}
use Rattle.index_tree.specs.Removal.{same_leaf, without}
use Rattle.index_tree.specs.Replacement.{swapped}
use Rattle.index_tree.specs.Shape.{contents, shape_weight}
use Rattle.index_tree.specs.Tree.{shape}
use Rattle.leaf_map.specs.Kept.{Kept}
use Rattle.journal_scan.specs.declared.journal_node.JournalNode.{JournalNode}
use Rattle.log_replay.specs.declared.read_leaf.ReadLeaf.{ReadLeaf}
use Rattle.log_replay.specs.declared.standing.Standing.{Standing}
use Rattle.log_replay.specs.Changes.{IsHeavier, place_of_node}
use Rattle.log_replay.specs.Noting.{Notes, Says}
use Rattle.log_replay.specs.Placing.{ArePlaced, AreSettled, LeafFound, IsFoundWell, IsLeafSound, Places, moved_to, pair_found, pair_told, present_leaves}
use Rattle.log_replay.specs.Standing.{leaf_of_key, leaves, leaves_in}
use Rattle.log_replay.specs.Told.{told_leaf}
use Rattle.log_replay.proofs.Noted.{says_more}
use Rattle.log_replay.proofs.OneNode.{same_links, same_places}

abbrev pub places_of : List LeafFound → List Leaf
places_of fs = map (λ f. f.leaf) fs

-- ---- lists of leaves
-- a leaf is none of these
abbrev Beside : Leaf → List Leaf → Type 0
Beside l xs = AllByRecursion (λ y. same_leaf y l ≡ false) xs

last_beside : (xs : List Leaf) (l : Leaf) → AreDistinct (xs ++ l ∷ []) → Beside l xs
last_beside [] l d = tt
last_beside (x ∷ xs) l d = (last xs (IsDistinct-head same_leaf x (xs ++ l ∷ []) d), last_beside xs l (IsDistinct-tail same_leaf x (xs ++ l ∷ []) d))
  where
    last : (ys : List Leaf) → AllByRecursion (λ y. same_leaf x y ≡ false) (ys ++ l ∷ []) → same_leaf x l ≡ false
    last [] a = a.0
    last (y ∷ ys) a = last ys a.1

front_distinct : (xs : List Leaf) (l : Leaf) → AreDistinct (xs ++ l ∷ []) → AreDistinct xs
front_distinct [] l d = IsDistinct-tail same_leaf l [] d
front_distinct (x ∷ xs) l d = IsDistinct-cons same_leaf x xs (front xs (IsDistinct-head same_leaf x (xs ++ l ∷ []) d)) (front_distinct xs l (IsDistinct-tail same_leaf x (xs ++ l ∷ []) d))
  where
    front : (ys : List Leaf) → AllByRecursion (λ y. same_leaf x y ≡ false) (ys ++ l ∷ []) → AllByRecursion (λ y. same_leaf x y ≡ false) ys
    front [] a = tt
    front (y ∷ ys) a = (a.0, front ys a.1)

same_number : (a : ℕ) → (a == a) ≡ true
same_number a = eq-eqb a a refl

pub itself : (l : Leaf) → same_leaf l l ≡ true
unfolding same_leaf
itself l = rw (same_number (leaf_rank l), same_number l.lnum, same_number l.offs, same_number l.len) refl

without_last : (xs ys : List Leaf) (l : Leaf) → Beside l xs → without l (xs ++ l ∷ ys) ≡ xs ++ ys
without_last [] ys l b = rw (itself l) refl
without_last (x ∷ xs) ys l b = rw b.0 (ap (λ z. x ∷ z) (without_last xs ys l b.1))

swapped_last : (xs ys : List Leaf) (l new : Leaf) → Beside l xs → swapped l new (xs ++ l ∷ ys) ≡ xs ++ new ∷ ys
swapped_last [] ys l new b = rw (itself l) refl
swapped_last (x ∷ xs) ys l new b = rw b.0 (ap (λ z. x ∷ z) (swapped_last xs ys l new b.1))

-- ---- from the last leaf to the first
record Unsnoc (front : List LeafFound) (items : List ReadLeaf) (read : ReadLeaf) : Type 0 where
  first : List LeafFound
  last : LeafFound
  split : front ≡ first ++ (last ∷ [])
  told : map pair_told items ≡ map pair_found first
  one : pair_told read ≡ pair_found last

unsnoc : (front : List LeafFound) (items : List ReadLeaf) (read : ReadLeaf) → map pair_told (items ++ (read ∷ [])) ≡ map pair_found front → Unsnoc front items read
unsnoc [] [] read h = absurd cc
unsnoc [] (i ∷ items) read h = absurd cc
unsnoc (x ∷ []) [] read h = let e : pair_told read ≡ pair_found x = cc in record { first = []; last = x; split = refl; told = refl; one = e }
unsnoc (x ∷ y ∷ front) [] read h = absurd cc
unsnoc (x ∷ front) (i ∷ items) read h =
    let e : pair_told i ≡ pair_found x = cc in
    let f : map pair_told (items ++ (read ∷ [])) ≡ map pair_found front = cc in
    let u = unsnoc front items read f in
    record { first = x ∷ u.first; last = u.last; split = ap (λ (xs : List LeafFound). x ∷ xs) u.split; told = by u.first e u.told; one = u.one }
  where
    by : (first : List LeafFound) → pair_told i ≡ pair_found x → map pair_told items ≡ map pair_found first → pair_told i ∷ map pair_told items ≡ pair_found x ∷ map pair_found first
    by first e t = cc

-- the last leaves stand where they were found, and the others are left
pub record Placing (found : List LeafFound) (items : List ReadLeaf) (s : Standing) : Type 0 where
  pub front : List LeafFound
  pub back : List LeafFound
  pub split : found ≡ front ++ back
  pub told : map pair_told items ≡ map pair_found front
  pub in_index : leaves_in s ≡ places_of front ++ leaves (present_leaves back)
  pub distinct : AreDistinct (places_of front)
  pub well : AllByRecursion IsFoundWell front
  pub says : Says (present_leaves back) s

last_well : (first : List LeafFound) (last : LeafFound) → AllByRecursion IsFoundWell (first ++ last ∷ []) → IsFoundWell last
last_well [] last a = a.0
last_well (x ∷ first) last a = last_well first last a.1

front_well : (first : List LeafFound) (last : LeafFound) → AllByRecursion IsFoundWell (first ++ last ∷ []) → AllByRecursion IsFoundWell first
front_well [] last a = tt
front_well (x ∷ first) last a = (a.0, front_well first last a.1)

says_same : (kept : List Kept) (s t : Standing) → t.inodes ≡ s.inodes → t.names ≡ s.names → Says kept s → Says kept t
says_same kept s t e f says = record { inodes = λ q. same_links s t e q ∙ says.inodes q; names = λ q. same_places s t f q ∙ says.names q }

record OnePlaced (back : List LeafFound) (xs : List Leaf) (last : LeafFound) (t : Standing) : Type 0 where
  in_index : leaves_in t ≡ xs ++ leaves (present_leaves (last ∷ back))
  says : Says (present_leaves (last ∷ back)) t

one_placed : (back : List LeafFound) (xs : List Leaf) (last : LeafFound) (read : ReadLeaf) (s t : Standing) → Beside last.leaf xs → IsFoundWell last → pair_told read ≡ pair_found last → leaves_in s ≡ xs ++ last.leaf ∷ leaves (present_leaves back)
    → Says (present_leaves back) s → Places read s t → OnePlaced back xs last t
one_placed back xs last read s t beside well e i says p = by last.kept well (ap (λ (z : Leaf × Option JournalNode). z.1) e)
  where
    leaf : read.leaf ≡ last.leaf
    leaf = ap (λ (z : Leaf × Option JournalNode). z.0) e

    by : (k : Option Kept) → MatchOption k (Unit {0}) (IsLeafSound last.leaf) → read.node ≡ option_map told_leaf k → OnePlaced back xs (record { leaf = last.leaf; kept = k }) t
    by None w n =
        let q : (leaves_in t ≡ without read.leaf (leaves_in s)) × (t.inodes ≡ s.inodes) × (t.names ≡ s.names) = subst (λ (o : Option JournalNode). Places (record read { node = o }) s t) n p in
        record {
          in_index = q.0 ∙ ap (λ (l : Leaf). without l (leaves_in s)) leaf ∙ ap (without last.leaf) i ∙ without_last xs (leaves (present_leaves back)) last.leaf beside;
          says = says_same (present_leaves back) s t q.1 q.2 says;
        }
    by (Some x) w n =
        let q : (between : Standing) × (leaves_in between ≡ moved_to (place_of_node (told_leaf x)) read.leaf (leaves_in s)) × (between.inodes ≡ s.inodes) × (between.names ≡ s.names) × (t.index ≡ between.index) × Notes (told_leaf x) between t =
        subst (λ (o : Option JournalNode). Places (record read { node = o }) s t) n p in
        let new : leaf_of_key last.leaf.key (place_of_node (told_leaf x)) ≡ x.leaf = ap (λ (k : Key). leaf_of_key k (place_of_node (told_leaf x))) (sym w.key) in
        let moved : moved_to (place_of_node (told_leaf x)) last.leaf (leaves_in s) ≡ swapped last.leaf x.leaf (leaves_in s) = rw w.is_key (ap (λ (l : Leaf). swapped last.leaf l (leaves_in s)) new) in
        record {
          in_index = ap (λ (j : Index). contents (shape j.root)) q.4 ∙ q.1 ∙ ap (λ (l : Leaf). moved_to (place_of_node (told_leaf x)) l (leaves_in s)) leaf ∙ moved ∙ ap (swapped last.leaf x.leaf) i ∙ swapped_last xs (leaves (present_leaves back)) last.leaf x.leaf beside;
          says = says_more x (present_leaves back) q.0 t w.keyed (says_same (present_leaves back) s q.0 q.2 q.3 says) q.5;
        }

pub place_on : (found : List LeafFound) (before items : List ReadLeaf) (read : ReadLeaf) (s t : Standing) → before ≡ items ++ (read ∷ []) → Placing found before s → Places read s t → Placing found items t
place_on found before items read s t pop p places =
    let u = unsnoc p.front items read (sym (ap (map pair_told) pop) ∙ p.told) in
    let xs : List Leaf = places_of u.first in
    let front : places_of p.front ≡ xs ++ u.last.leaf ∷ [] = ap places_of u.split ∙ map_append u.first (u.last ∷ []) in
    let distinct : AreDistinct (xs ++ u.last.leaf ∷ []) = subst AreDistinct front p.distinct in
    let well = subst (AllByRecursion IsFoundWell) u.split p.well in
    let in_index : leaves_in s ≡ xs ++ u.last.leaf ∷ leaves (present_leaves p.back) = p.in_index ∙ ap (λ (ys : List Leaf). ys ++ leaves (present_leaves p.back)) front ∙ append_assoc xs (u.last.leaf ∷ []) (leaves (present_leaves p.back)) in
    let o = one_placed p.back xs u.last read s t (last_beside xs u.last.leaf distinct) (last_well u.first u.last well) u.one in_index p.says places in
    record {
      front = u.first;
      back = u.last ∷ p.back;
      split = p.split ∙ ap (λ (fs : List LeafFound). fs ++ p.back) u.split ∙ append_assoc u.first (u.last ∷ []) p.back;
      told = u.told;
      in_index = o.in_index;
      distinct = front_distinct xs u.last.leaf distinct;
      well = front_well u.first u.last well;
      says = o.says;
    }
  where
    map_append : (fs gs : List LeafFound) → places_of (fs ++ gs) ≡ places_of fs ++ places_of gs
    map_append [] gs = refl
    map_append (f ∷ fs) gs = ap (λ z. f.leaf ∷ z) (map_append fs gs)

pub place_start : (found : List LeafFound) (items : List ReadLeaf) (s : Standing) → AreSettled found s items → Placing found items s
place_start found items s a = record { front = found; back = []; split = sym (append-nil found); told = a.told; in_index = a.in_index ∙ sym (append-nil (places_of found)); distinct = a.distinct; well = a.well; says = a.says }

pub place_end : (found : List LeafFound) (items : List ReadLeaf) (s : Standing) → items ≡ [] → Placing found items s → ArePlaced found s
place_end found items s e p = by p.front p.split (sym (ap (map pair_told) e) ∙ p.told) p.in_index
  where
    by : (front : List LeafFound) → found ≡ front ++ p.back → [] ≡ map pair_found front → leaves_in s ≡ places_of front ++ leaves (present_leaves p.back) → ArePlaced found s
    by [] split t i = subst (λ (fs : List LeafFound). ArePlaced fs s) (sym split) (record { in_index = i; says = p.says })
    by (f ∷ front) split t i = absurd cc

pub none_left : (items : List ReadLeaf) → length items ≡ 0 → items ≡ []
none_left [] e = refl
none_left (x ∷ items) e = absurd cc

pub lighter_on : (s t u : Standing) → IsHeavier 0 s t → IsHeavier 0 t u → IsHeavier 0 s u
lighter_on s t u h g =
    let a = h.weight in
    let b = subst (λ (f : ℕ). shape_weight f (shape u.index.root) ≤ shape_weight f (shape t.index.root) + 0) h.fanout g.weight in
    record { fanout = g.fanout ∙ h.fanout; weight = omega (arith, a, b) }
