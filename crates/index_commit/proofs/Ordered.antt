-- Where the keys in each node are in order, the next dirty node can be written.
use Rattle.std.proofs.Common.{◌≡◌, ℕ, zero, suc, ◌+◌, ◌-◌, ◌<◌, true, List, [], ◌∷◌, ◌++◌, length, refl, ap, sym, ◌∙◌, subst, arith, inl, inr, length-append}
use Rattle.std.specs.Prelude.{◌⊎◌, ◌&&◌, Option, None, Some, Result, Ok, Err, slice_get, unwrap_or, ⊤}
use Rattle.ubifs_base.specs.declared.key.Key.{Key}
use Rattle.index_media.specs.Clean.{node_branch, placed_of}
use Rattle.index_media.specs.KeyedRow.{KeyedRow, no_more, leaf_in, node_in, all_clean}
use Rattle.index_media.specs.PlacedRow.{PlacedRow, ended, leaf_at, node_at, Stretch, branches_of}
use Rattle.index_media.specs.Stored.{AreStored}
use Rattle.media_sys.specs.Index.{in_order, may_follow}
use Rattle.table_nodes.specs.BeyondLaws.{dirty_row}
use Rattle.node_table.specs.Dirty.{dirty_among, dirty_behind, dirty_below, dirty_from, dirty_node}
use Rattle.table_nodes.specs.NodeView.{NodeView, children_in, node_before, row_of, tree_at, node_view_of, node_views, views_behind}
use Rattle.node_table.specs.Placing.{KeepsPlaces}
use Rattle.table_nodes.specs.declared.link.Link.{Link}
use Rattle.table_nodes.specs.declared.link.Link.TheVariants.{ToLeaf, ToNode}
use Rattle.table_nodes.specs.declared.node.NodePlace.{NodePlace}
use Rattle.table_nodes.specs.declared.node.Root.{Root}
use Rattle.table_nodes.specs.declared.node.TableNode.{TableNode}
use Rattle.index_cache.specs.Paged.{frozen_of}
use Rattle.index_cache.specs.declared.paged.PagedIndex.{PagedIndex}
use Rattle.index_commit.specs.Answers.{HasEqualKeys}
use Rattle.index_commit.specs.Lebs.{IsGiven}
use Rattle.index_commit.specs.Ordered.{AreKeysInOrder, IsNotEqualKeys}
use Rattle.index_commit.specs.declared.index_fault.IndexFault.{IndexFault}
use Rattle.index_commit.specs.declared.index_fault.IndexFault.TheVariants.{Memory, Full, EqualKeys, Volume}
use Rattle.index_commit.proofs.Lebs.{given_of}
use Rattle.node_cache.specs.CleanRows.{placed_again}

-- ---- what holds of each node of a row
-- the keys in a node, if it is there, and in those below it are in order
abbrev pub IsInOrder : Option NodeView → Type 0
IsInOrder None = ⊤
IsInOrder (Some v) = (in_order None (branches_of (placed_of v.children)) ≡ true) × AreKeysInOrder v.children

node_order : (key : Key) (o : Option NodeView) (rest : KeyedRow) → AreKeysInOrder (node_before key o rest) → IsInOrder o × AreKeysInOrder rest
node_order key None rest h = (tt, h.2)
node_order key (Some v) rest h = ((h.0, h.1), h.2)

-- ---- numbers of nodes that are added
get_front : {X : Type 0} (xs : List X) (x : X) (n : ℕ) → n < length xs → slice_get (xs ++ x ∷ []) n ≡ slice_get xs n
get_front [] x n less = absurd (omega (arith, less))
get_front (y ∷ xs) x zero less = refl
get_front (y ∷ xs) x (suc n) less = get_front xs x n (omega (arith, less))

get_end : {X : Type 0} (xs : List X) (x : X) (n : ℕ) → n ≡ length xs → slice_get (xs ++ x ∷ []) n ≡ Some x
get_end [] x zero e = refl
get_end [] x (suc n) e = absurd (omega (arith, e))
get_end (y ∷ xs) x zero e = absurd (omega (arith, e))
get_end (y ∷ xs) x (suc n) e = get_end xs x n (omega (arith, e))

-- a number in one of these lists
abbrev pub Has : List (List ℕ) → ℕ → ℕ → Type 0
Has lists i number = IsGiven (unwrap_or (slice_get lists i) []) number

-- in which list of more it is
has_front : (lists : List (List ℕ)) (own : List ℕ) (i number : ℕ) → Has (lists ++ own ∷ []) i number → ((i < length lists) × Has lists i number) ⊎ ((i ≡ length lists) × IsGiven own number)
has_front [] own zero number h = inr (refl, h)
has_front [] own (suc i) number h = absurd h
has_front (list ∷ lists) own zero number h = inl (omega arith, h)
has_front (list ∷ lists) own (suc i) number h = elim (has_front lists own i number h) [
  | inl one ↦ let less = one.0 in inl (omega (arith, less), one.1)
  | inr end ↦ let is = end.0 in inr (omega (arith, is), end.1)
]

-- each number stands for a node, whose keys are in order if those of the list's node are, and those below it
abbrev pub AreBelow : List NodeView → List (List ℕ) → Type 0
AreBelow seen known = (i number : ℕ) → Has known i number → (number < length seen) × (IsInOrder (slice_get seen i) → IsInOrder (slice_get seen number))

among_below : (seen : List NodeView) (known : List (List ℕ)) (links : List Link) (number : ℕ) → AreBelow seen known → IsGiven (dirty_among known links) number
    → (number < length seen) × (AreKeysInOrder (row_of seen links) → IsInOrder (slice_get seen number))
among_below seen known [] number all h = absurd h
among_below seen known (ToLeaf x ∷ links) number all h = among_below seen known links number all h
among_below seen known (ToNode key k ∷ links) number all h = elim (given_of (unwrap_or (slice_get known k) []) (dirty_among known links) number h) [
  | inl own ↦ (
    (all k number own).0,
    (λ order. (all k number own).1 (node_order key (slice_get seen k) (row_of seen links) order).0),
  )
  | inr more ↦
      let rest = among_below seen known links number all more in (
        rest.0,
        (λ order. rest.1 (node_order key (slice_get seen k) (row_of seen links) order).1),
      )
]

own_below : (seen : List NodeView) (known : List (List ℕ)) (node : TableNode) (place : Option NodePlace) (number : ℕ) → node.place ≡ place → length known ≡ length seen → AreBelow seen known
    → IsGiven (dirty_node place (length known) (dirty_among known node.links.items)) number
    → (number < length seen + 1) × (IsInOrder (Some (node_view_of seen node)) → IsInOrder (slice_get (seen ++ node_view_of seen node ∷ []) number))
own_below seen known node (Some place) number at same all h = absurd h
own_below seen known node None number at same all h = elim (given_of (dirty_among known node.links.items) (length known ∷ []) number h) [
  | inl below ↦
      let one = among_below seen known node.links.items number all below in
      let less = one.0 in (
        omega (arith, less),
        (λ order. subst IsInOrder (sym (get_front seen (node_view_of seen node) number less)) (one.1 (subst AreKeysInOrder (dirty_row seen node at) order.1))),
      )
  | inr itself ↦ elim itself [
    | inl e ↦ (
      omega (arith, e, same),
      (λ order. subst IsInOrder (sym (get_end seen (node_view_of seen node) number (omega (arith, e, same)))) order),
    )
    | inr none ↦ absurd none
  ]
]

more_below : (seen : List NodeView) (known : List (List ℕ)) (node : TableNode) → length known ≡ length seen → AreBelow seen known
    → AreBelow (seen ++ node_view_of seen node ∷ []) (known ++ dirty_node node.place (length known) (dirty_among known node.links.items) ∷ [])
more_below seen known node same all i number h =
    let v = node_view_of seen node in
    let own = dirty_node node.place (length known) (dirty_among known node.links.items) in
    let long = length-append seen (v ∷ []) in
    elim (has_front known own i number h) [
      | inl front ↦
          let less = front.0 in
          let one = all i number front.1 in
          let fewer = one.0 in (
            omega (arith, long, fewer),
            (λ order. subst IsInOrder (sym (get_front seen v number fewer)) (one.1 (subst IsInOrder (get_front seen v i (omega (arith, less, same))) order))),
          )
      | inr end ↦
          let is = end.0 in
          let one = own_below seen known node node.place number refl same all end.1 in
          let fewer = one.0 in (
            omega (arith, long, fewer),
            (λ order. one.1 (subst IsInOrder (get_end seen v i (omega (arith, is, same))) order)),
          )
    ]

pub all_below : (seen : List NodeView) (known : List (List ℕ)) (nodes : List TableNode) → length known ≡ length seen → AreBelow seen known → AreBelow (views_behind seen nodes) (dirty_behind known nodes)
all_below seen known [] same all = all
all_below seen known (node ∷ nodes) same all =
    let v = node_view_of seen node in
    let own = dirty_node node.place (length known) (dirty_among known node.links.items) in
    let one = length-append seen (v ∷ []) in
    let other = length-append known (own ∷ []) in
    all_below (seen ++ v ∷ []) (known ++ own ∷ []) nodes (omega (arith, one, other, same)) (more_below seen known node same all)

pub none_below : AreBelow [] []
none_below i number h = absurd h

first_given : (numbers : List ℕ) (number : ℕ) → slice_get numbers 0 ≡ Some number → IsGiven numbers number
first_given [] number h = absurd cc
first_given (n ∷ numbers) number h = let same : number ≡ n = cc in inl same

children_order : (o : Option NodeView) → IsInOrder o → in_order None (branches_of (placed_of (children_in o))) ≡ true
children_order None h = refl
children_order (Some v) h = h.0

-- the first dirty node below a root
next_order : (nodes : List TableNode) (root : Option Root) (number : ℕ) → AreKeysInOrder (tree_at nodes root) → slice_get (dirty_below nodes root) 0 ≡ Some number
    → in_order None (branches_of (placed_of (children_in (slice_get (node_views nodes) number)))) ≡ true
next_order nodes None number h first = absurd cc
next_order nodes (Some root) number h first =
    let all = all_below [] [] nodes refl none_below in
    let given = first_given (dirty_from nodes root.number) number first in
    children_order (slice_get (node_views nodes) number) ((all root.number number given).1 (node_order root.key (slice_get (node_views nodes) root.number) no_more h).0)

-- ---- places that are given leave keys
branch_key : (key : Key) (o : Option Stretch) → (node_branch key o).key ≡ key
branch_key key None = refl
branch_key key (Some s) = refl

keys_kept : (before : Option Key) (row new : KeyedRow) → KeepsPlaces row new → in_order before (branches_of (placed_of new)) ≡ in_order before (branches_of (placed_of row))
keys_kept before no_more new h = ap (λ (r : KeyedRow). in_order before (branches_of (placed_of r))) h
keys_kept before (leaf_in x rest) new h =
    ap (λ (r : KeyedRow). in_order before (branches_of (placed_of r))) h.1 ∙ ap (λ b. may_follow before x.key && b) (keys_kept (Some x.key) rest h.0 h.2)
keys_kept before (node_in key old children rest) new h =
    let one : in_order before (branches_of (placed_of (node_in key h.0 h.1 h.2))) ≡ (may_follow before key && in_order (Some key) (branches_of (placed_of h.2))) =
    ap (λ (k : Key). may_follow before k && in_order (Some k) (branches_of (placed_of h.2))) (branch_key key h.0) in
    let other : in_order before (branches_of (placed_of (node_in key old children rest))) ≡ (may_follow before key && in_order (Some key) (branches_of (placed_of rest))) =
    ap (λ (k : Key). may_follow before k && in_order (Some k) (branches_of (placed_of rest))) (branch_key key old) in
    ap (λ (r : KeyedRow). in_order before (branches_of (placed_of r))) h.3 ∙ one ∙ ap (λ b. may_follow before key && b) (keys_kept (Some key) rest h.2 h.6) ∙ sym other

order_kept : (row new : KeyedRow) → KeepsPlaces row new → AreKeysInOrder row → AreKeysInOrder new
order_kept no_more new h order = subst AreKeysInOrder (sym h) tt
order_kept (leaf_in x rest) new h order = subst AreKeysInOrder (sym h.1) (order_kept rest h.0 h.2 order)
order_kept (node_in key old children rest) new h order =
    subst AreKeysInOrder (sym h.3) (keys_kept None children h.1 h.5 ∙ order.0, order_kept children h.1 h.5 order.1, order_kept rest h.2 h.6 order.2)

-- ---- so the answer never comes
pub never_equal : {T : Type 0} (a b : PagedIndex) (result : Result T IndexFault) → KeepsPlaces (frozen_of a) (frozen_of b) → AreKeysInOrder (frozen_of a) → HasEqualKeys b result → IsNotEqualKeys result
never_equal a b (Ok x) kept order h = tt
never_equal a b (Err Memory) kept order h = tt
never_equal a b (Err (Full need given)) kept order h = tt
never_equal a b (Err EqualKeys) kept order h =
    let fine = next_order b.table.nodes.items b.frozen h.0 (order_kept (frozen_of a) (frozen_of b) kept order) h.1.first in
    let bad = sym fine ∙ h.2 in
    absurd cc
never_equal a b (Err (Volume count)) kept order h = tt

-- ---- what stands on a medium
pub stored_order : (contents : ℕ → List ℕ) (levels : ℕ) (row : PlacedRow) → AreStored contents levels row → AreKeysInOrder (all_clean row)
unfolding AreStored
stored_order contents levels ended h = tt
stored_order contents levels (leaf_at x rest) h = stored_order contents levels rest h.1
stored_order contents levels (node_at branch children rest) h =
    (ap (λ (r : PlacedRow). in_order None (branches_of r)) (placed_again children) ∙ h.1.is.is.order, stored_order contents (levels - 1) children h.2, stored_order contents levels rest h.3)
