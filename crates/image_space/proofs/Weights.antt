-- The weight of an index by the lengths of its nodes.
use Rattle.std.proofs.Common.{◌≡◌, ℕ, ◌+◌, ◌*◌, ◌-◌, nat_le, Bool, true, false, List, ◌++◌, length, refl, ap, ◌∙◌, arith}
use Rattle.std.specs.Prelude.{if◌then◌else◌}
use Rattle.std.proofs.lemmas.List.Sums.{sum_by-cons, sum_by-append}
use Rattle.index_tree.specs.Shape.{count, full, shape_weight}
use Rattle.media_sys.specs.Index.{Index}
use Rattle.media_sys.specs.declared.branch.Branch.{Branch}
use Rattle.index_media.specs.PlacedRow.{PlacedRow, ended, leaf_at, node_at, all_nodes, branches_of, plain}
use Rattle.index_media.specs.Stored.{AreStored, IsIndexNodeAt}
use Rattle.image_space.specs.Weight.{node_weight, weight_by_lengths}

-- each node is as long as its branches ask
abbrev pub HaveLengths : Type 0
HaveLengths = (contents : ℕ → List ℕ) (branch : Branch) (said : Index) → IsIndexNodeAt contents branch said → branch.len ≡ 28 + 20 * length said.branches

-- a row has as many branches as siblings
siblings : (row : PlacedRow) → length (branches_of row) ≡ count (plain row)
siblings ended = refl
siblings (leaf_at x rest) = let e = siblings rest in omega (arith, e)
siblings (node_at branch children rest) = let e = siblings rest in omega (arith, e)

-- a node is full if it is as long as a full one
full_by : (fanout n len : ℕ) → len ≡ 28 + 20 * n → nat_le (28 + 20 * fanout) len ≡ nat_le fanout n
full_by fanout n len e = grind arith

node_full : (fanout : ℕ) (branch : Branch) (children : PlacedRow) → branch.len ≡ 28 + 20 * length (branches_of children) → node_weight fanout branch ≡ 1 + full fanout (plain children)
node_full fanout branch children e =
    let len : branch.len ≡ 28 + 20 * count (plain children) = let s = siblings children in omega (arith, e, s) in
    let same = full_by fanout (count (plain children)) branch.len len in
    ap (λ (b : Bool). if b then 2 else 1) same ∙ one_more (nat_le fanout (count (plain children)))
  where
    one_more : (b : Bool) → (if b then 2 else 1) ≡ 1 + (if b then 1 else 0)
    one_more true = refl
    one_more false = refl

pub row_weight : HaveLengths → (contents : ℕ → List ℕ) (fanout levels : ℕ) (row : PlacedRow) → AreStored contents levels row → shape_weight fanout (plain row) ≡ weight_by_lengths fanout (all_nodes row)
unfolding AreStored
row_weight lens contents fanout levels ended h = refl
row_weight lens contents fanout levels (leaf_at x rest) h = row_weight lens contents fanout levels rest h.1
row_weight lens contents fanout levels (node_at branch children rest) h =
    let own = node_full fanout branch children (lens contents branch (record { level = levels - 1; branches = branches_of children }) h.1) in
    let below = row_weight lens contents fanout (levels - 1) children h.2 in
    let beside = row_weight lens contents fanout levels rest h.3 in
    let cons = sum_by-cons (node_weight fanout) branch (all_nodes children ++ all_nodes rest) in
    let more = sum_by-append (node_weight fanout) (all_nodes children) (all_nodes rest) in
    omega (arith, own, below, beside, cons, more)
