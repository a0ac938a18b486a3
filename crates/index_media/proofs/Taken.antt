-- What the nodes of an index take.
use Rattle.std.proofs.Common.{◌≡◌, ℕ, ◌+◌, ◌*◌, ◌-◌, ◌≤◌, true, List, [], ◌∷◌, ◌++◌, length, refl, sym, subst, arith, append-nil, inl, inr}
use Rattle.std.specs.Prelude.{nat_le, nat_lt, ◌&&◌}
use Rattle.std.specs.List.{list_all}
use Rattle.std.proofs.lemmas.Bool.{cases_Bool, and_from, leb-true}
use Rattle.std.proofs.Math.Nat.{add-mul}
use Rattle.std.proofs.lemmas.List.{length-append}
use Rattle.index_tree.specs.Shape.{Shape, count, node_count, fits}
use Rattle.media_sys.specs.declared.branch.Branch.{Branch}
use Rattle.index_media.specs.PlacedRow.{PlacedRow, ended, leaf_at, node_at, plain, branches_of, all_nodes, node_end, bytes_taken, is_apart, is_apart_from, are_disjoint, stretch_of}
use Rattle.index_media.specs.Stored.{AreStored, IsStoredIndex}
use Rattle.index_media.proofs.Depths.{length_branches}
use Rattle.index_media.proofs.Lens.{node_len}

-- a node that overlaps none of those below it
pub with_place_disjoint : (place : Branch) (row : PlacedRow) → is_apart_from (stretch_of place) row ≡ true → are_disjoint (all_nodes row) ≡ true → are_disjoint (all_nodes (node_at place row ended)) ≡ true
with_place_disjoint place row apart others =
    let P : List Branch → Type 0 = λ nodes. are_disjoint (place ∷ nodes) ≡ true in
    subst P (sym (append-nil (all_nodes row))) (and_from (list_all (λ other. is_apart (stretch_of place) other) (all_nodes row)) (are_disjoint (all_nodes row)) apart others)

pub node_number : (row : PlacedRow) → length (all_nodes row) ≡ node_count (plain row)
node_number ended = refl
node_number (leaf_at x rest) = node_number rest
node_number (node_at b c rest) =
    let both = length-append (all_nodes c) (all_nodes rest) in
    let children = node_number c in
    let others = node_number rest in
    omega (arith, both, children, others)

taken_append : (xs ys : List Branch) → bytes_taken (xs ++ ys) ≡ bytes_taken xs + bytes_taken ys
taken_append [] ys = omega arith
taken_append (x ∷ xs) ys = let others = taken_append xs ys in omega (arith, others)

-- what each node's children say of a row
record FitNode (fanout : ℕ) (c rest : Shape) : Type 0 where
  pub most : count c ≤ fanout
  pub children : fits fanout c ≡ true
  pub others : fits fanout rest ≡ true

fit_node : (fanout : ℕ) (c rest : Shape) → (nat_lt 0 (count c) && nat_le (count c) fanout && fits fanout c && fits fanout rest) ≡ true → FitNode fanout c rest
fit_node fanout c rest h = elim (cases_Bool (nat_lt 0 (count c))) [
  | inr e ↦ let none = rw e at h in absurd cc
  | inl e ↦ elim (cases_Bool (nat_le (count c) fanout)) [
    | inr g ↦ let none = rw g at (rw e at h) in absurd cc
    | inl g ↦ elim (cases_Bool (fits fanout c)) [
      | inr k ↦ let none = rw k at (rw g at (rw e at h)) in absurd cc
      | inl k ↦ record { most = leb-true (count c) fanout g; children = k; others = rw k at (rw g at (rw e at h)) }
    ]
  ]
]

-- no node is longer than a full one
end_within : (n fanout : ℕ) → n ≤ fanout → node_end (28 + 20 * n) ≤ node_end (28 + 20 * fanout)
end_within n fanout h = omega (arith, h)

-- two parts, and one full node more
more : (p q full x y z : ℕ) → x ≤ p * full → y ≤ q * full → z ≤ full → z + (x + y) ≤ (p + q + 1) * full
more p q full x y z hx hy hz =
    let e : (p + q + 1) * full ≡ (p + q) * full + 1 * full = add-mul (p + q) 1 full in
    let f : (p + q) * full ≡ p * full + q * full = add-mul p q full in
    omega (arith, e, f, hx, hy, hz)

row_taken : (media : ℕ → List ℕ) (fanout levels : ℕ) (row : PlacedRow) → fits fanout (plain row) ≡ true → AreStored media levels row → bytes_taken (all_nodes row) ≤ node_count (plain row) * node_end (28 + 20 * fanout)
unfolding AreStored
row_taken media fanout levels ended f h = omega arith
row_taken media fanout levels (leaf_at x rest) f h = row_taken media fanout levels rest f h.1
row_taken media fanout levels (node_at b c rest) f h =
    let parts = fit_node fanout (plain c) (plain rest) f in
    let joined = taken_append (all_nodes c) (all_nodes rest) in
    let children = row_taken media fanout (levels - 1) c parts.children h.2 in
    let others = row_taken media fanout levels rest parts.others h.3 in
    let long = node_len media b (record { level = levels - 1; branches = branches_of c }) h.1 in
    let number = length_branches c in
    let e : b.len ≡ 28 + 20 * count (plain c) = omega (arith, long, number) in
    let P : ℕ → Type 0 = λ n. node_end n ≤ node_end (28 + 20 * fanout) in
    let own = subst P (sym e) (end_within (count (plain c)) fanout parts.most) in
    let Q : ℕ → Type 0 = λ n. node_end b.len + n ≤ (node_count (plain c) + node_count (plain rest) + 1) * node_end (28 + 20 * fanout) in
    subst Q (sym joined) (more (node_count (plain c)) (node_count (plain rest)) (node_end (28 + 20 * fanout)) (bytes_taken (all_nodes c)) (bytes_taken (all_nodes rest)) (node_end b.len) children others own)

pub most_taken : (media : ℕ → List ℕ) (fanout : ℕ) (root : Branch) (placed : PlacedRow) → IsStoredIndex media fanout root placed → bytes_taken (all_nodes placed) ≤ node_count (plain placed) * node_end (28 + 20 * fanout)
most_taken media fanout root placed h = row_taken media fanout h.levels placed h.fits h.stored
