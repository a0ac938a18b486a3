-- The list of a stored index's nodes.
use Rattle.std.proofs.Common.{◌≡◌, ℕ, zero, suc, ◌-◌, List, [], ◌∷◌, ◌++◌, length, refl, ap, sym, ◌∙◌, subst, arith, inl, inr}
use Rattle.std.specs.Prelude.{All, map, ◌==◌, if◌then◌else◌}
use Rattle.std.proofs.lemmas.Bool.{cases_Bool, eqb-true, eqb-false}
use Rattle.std.proofs.lemmas.List.{map-append}
use Rattle.std.proofs.lemmas.List.Elements.{All-nil, All-cons, All-append}
use Rattle.index_tree.specs.Listing.{ListedNode, height, row_leaves, level_nodes, levels_below, listed}
use Rattle.index_tree.specs.Shape.{count}
use Rattle.index_tree.specs.declared.leaf.Leaf.{Leaf}
use Rattle.media_sys.specs.declared.branch.Branch.{Branch}
use Rattle.index_media.specs.PlacedRow.{PlacedRow, ended, leaf_at, node_at, plain, leaf_of, branches_of}
use Rattle.index_media.specs.Stored.{IsIndexNodeAt, AreStored, IsStoredIndex}
use Rattle.index_media.specs.StoredList.{StoredNode, as_listed, level_stored, stored_below, stored_list}
use Rattle.index_media.proofs.Depths.{length_branches, index_height}

-- what a stored node says, as it is listed
abbrev pub listed_as : StoredNode → ListedNode
listed_as one = as_listed one.said

low_leaves : (media : ℕ → List ℕ) (levels : ℕ) (row : PlacedRow) → levels ≡ 0 → AreStored media levels row → map leaf_of (branches_of row) ≡ row_leaves (plain row)
unfolding AreStored
low_leaves media levels ended low h = refl
low_leaves media levels (leaf_at x rest) low h = ap (λ (xs : List Leaf). x ∷ xs) (low_leaves media levels rest low h.1)
low_leaves media levels (node_at b c rest) low h = absurd (omega (arith, low, h.0))

high_leaves : (media : ℕ → List ℕ) (levels : ℕ) (row : PlacedRow) → (levels ≡ 0 → ⊥) → AreStored media levels row → [] ≡ row_leaves (plain row)
unfolding AreStored
high_leaves media levels ended high h = refl
high_leaves media levels (leaf_at x rest) high h = absurd (high h.0)
high_leaves media levels (node_at b c rest) high h = high_leaves media levels rest high h.3

said_leaves : (media : ℕ → List ℕ) (levels : ℕ) (row : PlacedRow) → AreStored media levels row → (if levels == 0 then map leaf_of (branches_of row) else []) ≡ row_leaves (plain row)
said_leaves media levels row h = elim (cases_Bool (levels == 0)) [
  | inl e ↦ rw e (low_leaves media levels row (eqb-true levels 0 e) h)
  | inr e ↦ rw e (high_leaves media levels row (eqb-false levels 0 e) h)
]

abbrev pub listed_with : ℕ → ℕ → List Leaf → ListedNode
listed_with level m xs = record { level = level; count = m; leaves = xs }

same_listed : (level : ℕ) (m n : ℕ) (xs ys : List Leaf) → m ≡ n → xs ≡ ys → listed_with level m xs ≡ listed_with level n ys
same_listed level m n xs ys e f = cc (e, f)

node_listed : (media : ℕ → List ℕ) (levels : ℕ) (row : PlacedRow) → AreStored media levels row
    → as_listed (record { level = levels; branches = branches_of row }) ≡ listed_with levels (count (plain row)) (row_leaves (plain row))
node_listed media levels row h = same_listed levels (length (branches_of row)) (count (plain row)) (if levels == 0 then map leaf_of (branches_of row) else []) (row_leaves (plain row)) (length_branches row) (said_leaves media levels row h)

one_listed : (media : ℕ → List ℕ) (level levels : ℕ) (b : Branch) (c : PlacedRow) → levels ≡ level → AreStored media levels c
    → map listed_as ((record { branch = b; said = record { level = level; branches = branches_of c } }) ∷ []) ≡ (listed_with level (count (plain c)) (row_leaves (plain c))) ∷ []
one_listed media level levels b c e h =
    let P : ℕ → Type 0 = λ n. AreStored media n c in
    ap (λ (x : ListedNode). x ∷ []) (node_listed media level c (subst P e h))

joined : (xs ys : List StoredNode) (us vs : List ListedNode) → map listed_as xs ≡ us → map listed_as ys ≡ vs → map listed_as (xs ++ ys) ≡ us ++ vs
joined xs ys us vs e f = map-append listed_as xs ys ∙ ap (λ (w : List ListedNode). w ++ map listed_as ys) e ∙ ap (λ (w : List ListedNode). us ++ w) f

level_listed : (media : ℕ → List ℕ) (level levels : ℕ) (row : PlacedRow) → AreStored media levels row → map listed_as (level_stored level levels row) ≡ level_nodes level levels (plain row)
unfolding AreStored
level_listed media level levels ended h = refl
level_listed media level levels (leaf_at x rest) h = refl
level_listed media level levels (node_at b c rest) h =
    let others = level_listed media level levels rest h.3 in
    elim (cases_Bool (levels - 1 == level)) [
      | inl e ↦ rw e (joined ((record { branch = b; said = record { level = level; branches = branches_of c } }) ∷ []) (level_stored level levels rest) ((listed_with level (count (plain c)) (row_leaves (plain c))) ∷ []) (level_nodes level levels (plain rest)) (one_listed media level (levels - 1) b c (eqb-true (levels - 1) level e) h.2) others)
      | inr e ↦ rw e (joined (level_stored level (levels - 1) c) (level_stored level levels rest) (level_nodes level (levels - 1) (plain c)) (level_nodes level levels (plain rest)) (level_listed media level (levels - 1) c h.2) others)
    ]

below_listed : (media : ℕ → List ℕ) (n : ℕ) (row : PlacedRow) → AreStored media (height (plain row)) row → map listed_as (stored_below n (height (plain row)) row) ≡ levels_below n (plain row)
below_listed media zero row h = refl
below_listed media (suc n) row h =
    joined (stored_below n (height (plain row)) row) (level_stored n (height (plain row)) row) (levels_below n (plain row)) (level_nodes n (height (plain row)) (plain row)) (below_listed media n row h) (level_listed media n (height (plain row)) row h)

at_height : (media : ℕ → List ℕ) (fanout : ℕ) (root : Branch) (placed : PlacedRow) → IsStoredIndex media fanout root placed → AreStored media (height (plain placed)) placed
at_height media fanout root placed h =
    let P : ℕ → Type 0 = λ n. AreStored media n placed in
    subst P (sym (index_height media fanout root placed h)) h.stored

pub index_listed : (media : ℕ → List ℕ) (fanout : ℕ) (root : Branch) (placed : PlacedRow) → IsStoredIndex media fanout root placed → map listed_as (stored_list placed) ≡ listed (plain placed)
index_listed media fanout root placed h = below_listed media (height (plain placed)) placed (at_height media fanout root placed h)

-- each node of the list stands where its branch leads
abbrev pub IsThere : (ℕ → List ℕ) → StoredNode → Type 0
IsThere media one = IsIndexNodeAt media one.branch one.said

level_there : (media : ℕ → List ℕ) (level levels : ℕ) (row : PlacedRow) → AreStored media levels row → All (λ one. IsThere media one) (level_stored level levels row)
unfolding AreStored
level_there media level levels ended h = All-nil (λ one. IsThere media one)
level_there media level levels (leaf_at x rest) h = All-nil (λ one. IsThere media one)
level_there media level levels (node_at b c rest) h =
    let P : StoredNode → Type 0 = λ one. IsThere media one in
    let others = level_there media level levels rest h.3 in
    elim (cases_Bool (levels - 1 == level)) [
      | inl e ↦
          let Q : ℕ → Type 0 = λ n. IsIndexNodeAt media b (record { level = n; branches = branches_of c }) in
          rw e (All-cons P (record { branch = b; said = record { level = level; branches = branches_of c } }) (level_stored level levels rest) (subst Q (eqb-true (levels - 1) level e) h.1) others)
      | inr e ↦ rw e (All-append P (level_stored level (levels - 1) c) (level_stored level levels rest) (level_there media level (levels - 1) c h.2) others)
    ]

below_there : (media : ℕ → List ℕ) (n levels : ℕ) (row : PlacedRow) → AreStored media levels row → All (λ one. IsThere media one) (stored_below n levels row)
below_there media zero levels row h = All-nil (λ one. IsThere media one)
below_there media (suc n) levels row h =
    All-append (λ one. IsThere media one) (stored_below n levels row) (level_stored n levels row) (below_there media n levels row h) (level_there media n levels row h)

pub index_there : (media : ℕ → List ℕ) (fanout : ℕ) (root : Branch) (placed : PlacedRow) → IsStoredIndex media fanout root placed → All (λ one. IsThere media one) (stored_list placed)
index_there media fanout root placed h = below_there media (height (plain placed)) (height (plain placed)) placed (at_height media fanout root placed h)
