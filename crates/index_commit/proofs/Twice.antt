-- Where no leaf stands twice, no dirty node does.
use Rattle.std.proofs.Common.{◌≡◌, ℕ, zero, suc, ◌+◌, ◌<◌, ◌≤◌, true, false, List, [], ◌∷◌, ◌++◌, length, refl, ap, sym, ◌∙◌, subst, arith, inl, inr, append-nil, length-append}
use Rattle.std.specs.Prelude.{◌⊎◌, ◌==◌, Bool, Option, None, Some, slice_get, unwrap_or}
use Rattle.std.specs.List.{AllByRecursion, IsDistinct}
use Rattle.std.proofs.lemmas.Bool.{cases_Bool}
use Rattle.std.proofs.lemmas.Bool.Decides.{nat_tests}
use Rattle.std.proofs.lemmas.Option.{slice_get_cases}
use Rattle.ubifs_base.specs.declared.key.Key.{Key}
use Rattle.index_tree.specs.Distinct.{AreDistinct}
use Rattle.index_tree.specs.Order.{leaf_rank}
use Rattle.index_tree.specs.Removal.{same_leaf}
use Rattle.index_tree.specs.Shape.{Shape, done, leaf, node, contents, count, fits}
use Rattle.index_tree.specs.declared.leaf.Leaf.{Leaf}
use Rattle.index_media.specs.InsertionSound.{fit_node}
use Rattle.index_media.specs.KeyedRow.{KeyedRow, no_more, bare}
use Rattle.table_nodes.specs.BeyondLaws.{dirty_row}
use Rattle.node_table.specs.Dirty.{dirty_among, dirty_behind, dirty_below, dirty_from, dirty_lists, dirty_node}
use Rattle.table_nodes.specs.NodeView.{NodeView, node_before, row_of, tree_at, node_view_of, node_views, views_behind}
use Rattle.table_nodes.specs.Sound.{AreSoundViews, IsSoundView}
use Rattle.table_nodes.specs.declared.link.Link.{Link}
use Rattle.table_nodes.specs.declared.link.Link.TheVariants.{ToLeaf, ToNode}
use Rattle.table_nodes.specs.declared.node.NodePlace.{NodePlace}
use Rattle.table_nodes.specs.declared.node.Root.{Root}
use Rattle.table_nodes.specs.declared.node.TableNode.{TableNode}
use Rattle.index_cache.specs.Paged.{dirty_of, fanout_of, frozen_of}
use Rattle.index_cache.specs.declared.paged.PagedIndex.{PagedIndex}
use Rattle.index_commit.specs.Lebs.{IsGiven}
use Rattle.index_commit.specs.Rooms.{AreDistinctNumbers}
use Rattle.index_commit.proofs.LastTaken.{AreLower, EndTheirs, end_both, lower_among, own_ends}
use Rattle.index_commit.proofs.Ordered.{all_below, none_below}
use Rattle.index_commit.proofs.RowRooms.{get_all, get_cases, get_end, list_front, seen_stays}

-- ---- how often
abbrev one : Bool → ℕ
one true = 1
one false = 0

-- a number stands in a list
abbrev often : ℕ → List ℕ → ℕ
often t [] = 0
often t (n ∷ numbers) = one (n == t) + often t numbers

-- and a leaf among others
abbrev leaf_often : Leaf → List Leaf → ℕ
leaf_often x [] = 0
leaf_often x (y ∷ leaves) = one (same_leaf y x) + leaf_often x leaves

often_both : (t : ℕ) (xs ys : List ℕ) → often t (xs ++ ys) ≡ often t xs + often t ys
often_both t [] ys = omega arith
often_both t (x ∷ xs) ys = let more = often_both t xs ys in omega (arith, more)

leaf_often_both : (x : Leaf) (xs ys : List Leaf) → leaf_often x (xs ++ ys) ≡ leaf_often x xs + leaf_often x ys
leaf_often_both x [] ys = omega arith
leaf_often_both x (y ∷ xs) ys = let more = leaf_often_both x xs ys in omega (arith, more)

lower_never : (t : ℕ) (numbers : List ℕ) → AreLower t numbers → often t numbers ≡ 0
lower_never t [] h = refl
lower_never t (n ∷ numbers) h =
    let less = h.0 in
    let other : (n == t) ≡ false = grind (arith, nat_tests, less) in
    let none : one (n == t) ≡ 0 = ap one other in
    let rest = lower_never t numbers h.1 in
    omega (arith, none, rest)

found_once : (t : ℕ) (numbers : List ℕ) (n : ℕ) → slice_get numbers n ≡ Some t → 1 ≤ often t numbers
found_once t [] n h = absurd cc
found_once t (x ∷ numbers) zero h =
    let same : x ≡ t = cc in
    let itself : (x == t) ≡ true = grind (arith, nat_tests, same) in
    let here : one (x == t) ≡ 1 = ap one itself in
    omega (arith, here)
found_once t (x ∷ numbers) (suc n) h = let more = found_once t numbers n h in omega (arith, more)

here_twice : (t x : ℕ) (numbers : List ℕ) (n : ℕ) → often t (x ∷ numbers) ≤ 1 → Some x ≡ Some t → slice_get numbers n ≡ Some t → ⊥
here_twice t x numbers n few first h =
    let same : x ≡ t = cc in
    let itself : (x == t) ≡ true = grind (arith, nat_tests, same) in
    let here : one (x == t) ≡ 1 = ap one itself in
    let more = found_once t numbers n h in
    omega (arith, here, more, few)

one_place : (t : ℕ) (numbers : List ℕ) (n m : ℕ) → often t numbers ≤ 1 → slice_get numbers n ≡ Some t → slice_get numbers m ≡ Some t → n ≡ m
one_place t [] n m few h k = absurd cc
one_place t (x ∷ numbers) zero zero few h k = refl
one_place t (x ∷ numbers) zero (suc m) few h k = absurd (here_twice t x numbers m few h k)
one_place t (x ∷ numbers) (suc n) zero few h k = absurd (here_twice t x numbers n few k h)
one_place t (x ∷ numbers) (suc n) (suc m) few h k = ap (λ (i : ℕ). suc i) (one_place t numbers n m (omega (arith, few)) h k)

-- ---- leaves that are the same
same_itself : (x : Leaf) → same_leaf x x ≡ true
unfolding same_leaf
same_itself x =
    let rank : (leaf_rank x == leaf_rank x) ≡ true = grind (arith, nat_tests) in
    let lnum : (x.lnum == x.lnum) ≡ true = grind (arith, nat_tests) in
    let offs : (x.offs == x.offs) ≡ true = grind (arith, nat_tests) in
    let len : (x.len == x.len) ≡ true = grind (arith, nat_tests) in
    rw (rank, lnum, offs, len) refl

record AreSame (x y : Leaf) : Type 0 where
  rank : leaf_rank x ≡ leaf_rank y
  lnum : x.lnum ≡ y.lnum
  offs : x.offs ≡ y.offs
  len : x.len ≡ y.len

are_same : (x y : Leaf) → same_leaf x y ≡ true → AreSame x y
unfolding same_leaf
are_same x y h = elim (cases_Bool (leaf_rank x == leaf_rank y)) [
  | inr e ↦ let bad = rw e at h in absurd cc
  | inl e ↦ elim (cases_Bool (x.lnum == y.lnum)) [
    | inr f ↦ let bad = rw (e, f) at h in absurd cc
    | inl f ↦ elim (cases_Bool (x.offs == y.offs)) [
      | inr g ↦ let bad = rw (e, f, g) at h in absurd cc
      | inl g ↦
          let k : (x.len == y.len) ≡ true = rw (e, f, g) at h in
          record { rank = grind (arith, nat_tests, e); lnum = grind (arith, nat_tests, f); offs = grind (arith, nat_tests, g); len = grind (arith, nat_tests, k) }
    ]
  ]
]

from_same : (x y : Leaf) → AreSame x y → same_leaf x y ≡ true
unfolding same_leaf
from_same x y h =
    let a = h.rank in
    let b = h.lnum in
    let c = h.offs in
    let d = h.len in
    let rank : (leaf_rank x == leaf_rank y) ≡ true = grind (arith, nat_tests, a) in
    let lnum : (x.lnum == y.lnum) ≡ true = grind (arith, nat_tests, b) in
    let offs : (x.offs == y.offs) ≡ true = grind (arith, nat_tests, c) in
    let len : (x.len == y.len) ≡ true = grind (arith, nat_tests, d) in
    rw (rank, lnum, offs, len) refl

-- of leaves that differ from y none is the same as a leaf that is the same as y
never_again : (x y : Leaf) (leaves : List Leaf) → same_leaf y x ≡ true → AllByRecursion (λ z. same_leaf y z ≡ false) leaves → leaf_often x leaves ≡ 0
never_again x y [] same all = refl
never_again x y (z ∷ leaves) same all = elim (cases_Bool (same_leaf z x)) [
  | inl e ↦
      let a = are_same y x same in
      let b = are_same z x e in
      let both : same_leaf y z ≡ true = from_same y z (record { rank = a.rank ∙ sym b.rank; lnum = a.lnum ∙ sym b.lnum; offs = a.offs ∙ sym b.offs; len = a.len ∙ sym b.len }) in
      let bad = sym both ∙ all.0 in
      absurd cc
  | inr e ↦
      let none : one (same_leaf z x) ≡ 0 = ap one e in
      let rest = never_again x y leaves same all.1 in
      omega (arith, none, rest)
]

distinct_once : (x : Leaf) (leaves : List Leaf) → AreDistinct leaves → leaf_often x leaves ≤ 1
unfolding IsDistinct
distinct_once x [] h = omega arith
distinct_once x (y ∷ leaves) h = elim (cases_Bool (same_leaf y x)) [
  | inl e ↦
      let here : one (same_leaf y x) ≡ 1 = ap one e in
      let rest = never_again x y leaves e h.0 in
      omega (arith, here, rest)
  | inr e ↦
      let none : one (same_leaf y x) ≡ 0 = ap one e in
      let rest = distinct_once x leaves h.1 in
      omega (arith, none, rest)
]

-- a row that isn't empty has a leaf
some_leaf : (f : ℕ) (s : Shape) → fits f s ≡ true → 0 < count s → (x : Leaf) × (1 ≤ leaf_often x (contents s))
some_leaf f done fit some = absurd (omega (arith, some))
some_leaf f (leaf x rest) fit some =
    let here : one (same_leaf x x) ≡ 1 = ap one (same_itself x) in
    (x, omega (arith, here))
some_leaf f (node c rest) fit some =
    let parts = fit_node f c rest fit in
    let below = some_leaf f c parts.children parts.least in
    let more = below.1 in
    let sum = leaf_often_both below.0 (contents c) (contents rest) in
    (below.0, omega (arith, more, sum))

-- ---- nodes that are added to a table
-- a number stands among the dirty nodes of a node no more often than a leaf below it
abbrev AreFewer : ℕ → Leaf → List NodeView → List (List ℕ) → Type 0
AreFewer t x seen known = (i : ℕ) (v : NodeView) → slice_get seen i ≡ Some v → often t (unwrap_or (slice_get known i) []) ≤ leaf_often x (contents (bare v.children))

node_fewer : (t : ℕ) (x : Leaf) (f : ℕ) (seen : List NodeView) (known : List (List ℕ)) (key : Key) (k : ℕ) (o : Option NodeView) (behind : List ℕ) (row : KeyedRow) → slice_get seen k ≡ o → AreFewer t x seen known
    → fits f (bare (node_before key o row)) ≡ true → (fits f (bare row) ≡ true → often t behind ≤ leaf_often x (contents (bare row)))
    → often t (unwrap_or (slice_get known k) [] ++ behind) ≤ leaf_often x (contents (bare (node_before key o row)))
node_fewer t x f seen known key k None behind row is all fit rest = let none = (fit_node f done (bare row) fit).least in absurd (omega (arith, none))
node_fewer t x f seen known key k (Some v) behind row is all fit rest =
    let own = all k v is in
    let others = rest (fit_node f (bare v.children) (bare row) fit).others in
    let sum = often_both t (unwrap_or (slice_get known k) []) behind in
    let leaves = leaf_often_both x (contents (bare v.children)) (contents (bare row)) in
    omega (arith, own, others, sum, leaves)

links_fewer : (t : ℕ) (x : Leaf) (f : ℕ) (seen : List NodeView) (known : List (List ℕ)) (links : List Link) → AreFewer t x seen known → fits f (bare (row_of seen links)) ≡ true
    → often t (dirty_among known links) ≤ leaf_often x (contents (bare (row_of seen links)))
links_fewer t x f seen known [] all fit = omega arith
links_fewer t x f seen known (ToLeaf y ∷ links) all fit = let rest = links_fewer t x f seen known links all fit in omega (arith, rest)
links_fewer t x f seen known (ToNode key k ∷ links) all fit =
    node_fewer t x f seen known key k (slice_get seen k) (dirty_among known links) (row_of seen links) refl all fit (λ g. links_fewer t x f seen known links all g)

own_fewer : (t : ℕ) (x : Leaf) (n : ℕ) (below : List ℕ) (leaves : List Leaf) (place : Option NodePlace) → (place ≡ None → often t below ≤ leaf_often x leaves) → AreLower n below → (n ≡ t → 1 ≤ leaf_often x leaves)
    → often t (dirty_node place n below) ≤ leaf_often x leaves
own_fewer t x n below leaves (Some p) few lower own = omega arith
own_fewer t x n below leaves None few lower own = elim (cases_Bool (n == t)) [
  | inl e ↦
      let same : n ≡ t = grind (arith, nat_tests, e) in
      let here : one (n == t) ≡ 1 = ap one e in
      let none = lower_never t below (subst (λ (m : ℕ). AreLower m below) same lower) in
      let some = own same in
      let sum = often_both t below (n ∷ []) in
      omega (arith, here, none, some, sum)
  | inr e ↦
      let here : one (n == t) ≡ 0 = ap one e in
      let sum = often_both t below (n ∷ []) in
      let less = few refl in
      omega (arith, here, sum, less)
]

more_fewer : (t : ℕ) (x : Leaf) (seen : List NodeView) (known : List (List ℕ)) (v : NodeView) (own : List ℕ) → length known ≡ length seen → AreFewer t x seen known
    → often t own ≤ leaf_often x (contents (bare v.children)) → AreFewer t x (seen ++ v ∷ []) (known ++ own ∷ [])
more_fewer t x seen known v own count all mine i w is = elim (get_cases seen v w i is) [
  | inl front ↦
      let less = front.0 in
      let P : List ℕ → Type 0 = λ l. often t l ≤ leaf_often x (contents (bare w.children)) in
      subst P (sym (list_front known own i (omega (arith, less, count)))) (all i w front.1)
  | inr end ↦
      let here = end.0 in
      let e : v ≡ w = let both = end.1 in cc in
      let list : i ≡ length known = omega (arith, here, count) in
      let own_list : unwrap_or (slice_get (known ++ own ∷ []) i) [] ≡ own =
      ap (λ (n : ℕ). unwrap_or (slice_get (known ++ own ∷ []) n) []) list ∙ ap (λ (o : Option (List ℕ)). unwrap_or o []) (get_end known own) in
      let P : List ℕ → Type 0 = λ l. often t l ≤ leaf_often x (contents (bare w.children)) in
      let Q : NodeView → Type 0 = λ z. often t own ≤ leaf_often x (contents (bare z.children)) in
      subst P (sym own_list) (subst Q e mine)
]

all_fewer : (t : ℕ) (x : Leaf) (f : ℕ) (seen : List NodeView) (known : List (List ℕ)) (nodes : List TableNode) → length known ≡ length seen → EndTheirs 0 known
    → ((i : ℕ) (v : NodeView) → slice_get (views_behind seen nodes) i ≡ Some v → (fits f (bare v.children) ≡ true) × (i ≡ t → 1 ≤ leaf_often x (contents (bare v.children))))
    → AreFewer t x seen known → AreFewer t x (views_behind seen nodes) (dirty_behind known nodes)
all_fewer t x f seen known [] count ends sound all = all
all_fewer t x f seen known (y ∷ nodes) count ends sound all =
    let v = node_view_of seen y in
    let own = dirty_node y.place (length known) (dirty_among known y.links.items) in
    let here = sound (length seen) v (seen_stays (seen ++ v ∷ []) nodes (length seen) v (get_end seen v)) in
    let lower = lower_among known y.links.items ends in
    let F : KeyedRow → Type 0 = λ r. fits f (bare r) ≡ true in
    let L : KeyedRow → Type 0 = λ r. often t (dirty_among known y.links.items) ≤ leaf_often x (contents (bare r)) in
    let few : y.place ≡ None → often t (dirty_among known y.links.items) ≤ leaf_often x (contents (bare v.children)) = λ dirty.
    let row = dirty_row seen y dirty in
    subst L (sym row) (links_fewer t x f seen known y.links.items all (subst F row here.0)) in
    let mine = own_fewer t x (length known) (dirty_among known y.links.items) (contents (bare v.children)) y.place few lower (λ e. here.1 (sym count ∙ e)) in
    let zero : length known ≡ 0 + length known = omega arith in
    let ended = end_both 0 known own ends (own_ends_at y.place (length known) (0 + length known) (dirty_among known y.links.items) zero lower) in
    let two = length-append seen (v ∷ []) in
    let three = length-append known (own ∷ []) in
    all_fewer t x f (seen ++ v ∷ []) (known ++ own ∷ []) nodes (omega (arith, two, three, count)) ended sound (more_fewer t x seen known v own count all mine)
  where
    own_ends_at : (place : Option NodePlace) (n m : ℕ) (below : List ℕ) → n ≡ m → AreLower n below → (dirty_node place n below ≡ []) ⊎ ((front : List ℕ) × (dirty_node place n below ≡ front ++ m ∷ []) × AreLower m front)
    own_ends_at place n m below e lower = subst (λ (k : ℕ). (dirty_node place n below ≡ []) ⊎ ((front : List ℕ) × (dirty_node place n below ≡ front ++ k ∷ []) × AreLower k front)) e (own_ends place n below lower)

none_fewer : (t : ℕ) (x : Leaf) → AreFewer t x [] []
none_fewer t x i v is = absurd cc

-- ---- below a root
given_at : (numbers : List ℕ) (n t : ℕ) → slice_get numbers n ≡ Some t → IsGiven numbers t
given_at [] n t h = absurd cc
given_at (x ∷ numbers) zero t h = let same : t ≡ x = cc in inl same
given_at (x ∷ numbers) (suc n) t h = inr (given_at numbers n t h)

root_once : (a : PagedIndex) (root : Root) (t : ℕ) → fits (fanout_of a) (bare (tree_at a.table.nodes.items (Some root))) ≡ true → AreDistinct (contents (bare (tree_at a.table.nodes.items (Some root))))
    → IsGiven (dirty_from a.table.nodes.items root.number) t → often t (dirty_from a.table.nodes.items root.number) ≤ 1
root_once a root t fit distinct given =
    let seen = node_views a.table.nodes.items in
    let f = fanout_of a in
    let lists = dirty_lists a.table.nodes.items in
    let there = (all_below [] [] a.table.nodes.items refl none_below root.number t given).0 in
    elim (slice_get_cases seen t).1 [
      | inl some ↦
          let v = some.0 in
          let is = some.2 in
          let all : AreSoundViews f seen = a.table.sound in
          let own = fit_node f (bare v.children) done (get_all (IsSoundView f) seen t v all is).0 in
          let first = some_leaf f (bare v.children) own.children own.least in
          let x = first.0 in
          let sound : (i : ℕ) (w : NodeView) → slice_get seen i ≡ Some w → (fits f (bare w.children) ≡ true) × (i ≡ t → 1 ≤ leaf_often x (contents (bare w.children))) = λ i w at. (
            (fit_node f (bare w.children) done (get_all (IsSoundView f) seen i w all at).0).children,
            (λ e.
                let here : slice_get seen t ≡ Some w = subst (λ (k : ℕ). slice_get seen k ≡ Some w) e at in
                let both = sym is ∙ here in
                let same : v ≡ w = cc in
                subst (λ (z : NodeView). 1 ≤ leaf_often x (contents (bare z.children))) same first.1),
          ) in
          let fewer = all_fewer t x f [] [] a.table.nodes.items refl tt sound (none_fewer t x) in
          let few = node_fewer t x f seen lists root.key root.number (slice_get seen root.number) [] no_more refl fewer fit (λ g. omega arith) in
          let P : List ℕ → Type 0 = λ l. often t l ≤ leaf_often x (contents (bare (tree_at a.table.nodes.items (Some root)))) in
          let less = subst P (append-nil (dirty_from a.table.nodes.items root.number)) few in
          let most = distinct_once x (contents (bare (tree_at a.table.nodes.items (Some root)))) distinct in
          omega (arith, less, most)
      | inr past ↦ let far = past.0 in absurd (omega (arith, far, there))
    ]

pub distinct_dirty : (a : PagedIndex) → fits (fanout_of a) (bare (frozen_of a)) ≡ true → AreDistinct (contents (bare (frozen_of a))) → AreDistinctNumbers (dirty_of a)
distinct_dirty a fit distinct = by a.frozen fit distinct
  where
    by : (o : Option Root) → fits (fanout_of a) (bare (tree_at a.table.nodes.items o)) ≡ true → AreDistinct (contents (bare (tree_at a.table.nodes.items o))) → AreDistinctNumbers (dirty_below a.table.nodes.items o)
    by None fit distinct n m t is other = absurd cc
    by (Some root) fit distinct n m t is other =
        let numbers = dirty_from a.table.nodes.items root.number in
        one_place t numbers n m (root_once a root t fit distinct (given_at numbers n t is)) is other
