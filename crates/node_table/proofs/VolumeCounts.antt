-- What rows on a volume take.
use Rattle.std.proofs.Common.{◌≡◌, ℕ, ◌+◌, List, length, refl, sym, ◌∙◌, subst, arith}
use Rattle.std.specs.Prelude.{if◌then◌else◌, nat_le}
use Rattle.index_tree.specs.Shape.{count, shape_weight}
use Rattle.index_media.specs.PlacedRow.{PlacedRow, ended, leaf_at, node_at, plain, branches_of}
use Rattle.index_media.specs.Stored.{AreStored}
use Rattle.media_sys.specs.declared.branch.Branch.{Branch}
use Rattle.node_table.specs.Counting.{AreCountsOf}
use Rattle.node_table.specs.declared.counts.TreeCounts.{TreeCounts}

count_branches : (row : PlacedRow) → count (plain row) ≡ length (branches_of row)
count_branches ended = refl
count_branches (leaf_at x rest) = let more = count_branches rest in omega (arith, more)
count_branches (node_at branch children rest) = let more = count_branches rest in omega (arith, more)

-- a node over what is below it
pub over_counts : (f children : ℕ) (branch : Branch) (row : PlacedRow) (own below sum : TreeCounts) → children ≡ length (branches_of row) → AreCountsOf f (plain row) below
    → own.nodes ≡ 1 → own.weight ≡ 1 + (if nat_le f children then 1 else 0) → sum.nodes ≡ own.nodes + below.nodes → sum.weight ≡ own.weight + below.weight
    → AreCountsOf f (plain (node_at branch row ended)) sum
over_counts f children branch row own below sum long h one weight nodes heavier =
    let same : count (plain row) ≡ children = count_branches row ∙ sym long in
    let W : ℕ → Type 0 = λ n. sum.weight ≡ shape_weight f (plain row) + 0 + 1 + (if nat_le f n then 1 else 0) in
    let count = h.0 in
    let heavy = h.1 in
    (omega (arith, count, one, nodes), subst W (sym same) (omega (arith, heavy, weight, heavier)))

-- a node beside others
pub beside_counts : (f : ℕ) (branch : Branch) (children rest : PlacedRow) (first others sum : TreeCounts) → AreCountsOf f (plain (node_at branch children ended)) first → AreCountsOf f (plain rest) others
    → sum.nodes ≡ first.nodes + others.nodes → sum.weight ≡ first.weight + others.weight → AreCountsOf f (plain (node_at branch children rest)) sum
beside_counts f branch children rest first others sum here there nodes weight =
    let n = here.0 in
    let m = there.0 in
    let v = here.1 in
    let w = there.1 in
    (omega (arith, n, m, nodes), omega (arith, v, w, weight))

-- leaves are no nodes
pub leaves_counts : (media : ℕ → List ℕ) (f levels : ℕ) (row : PlacedRow) → levels ≡ 0 → AreStored media levels row → AreCountsOf f (plain row) (record { nodes = 0; weight = 0 })
unfolding AreStored
leaves_counts media f levels ended none h = (refl, refl)
leaves_counts media f levels (leaf_at x rest) none h = leaves_counts media f levels rest none h.1
leaves_counts media f levels (node_at branch children rest) none h = absurd (omega (arith, none, h.0))

pub no_counts : (f : ℕ) (row : PlacedRow) → length (branches_of row) ≡ 0 → AreCountsOf f (plain row) (record { nodes = 0; weight = 0 })
no_counts f ended e = (refl, refl)
no_counts f (leaf_at x rest) e = absurd (omega (arith, e))
no_counts f (node_at branch children rest) e = absurd (omega (arith, e))
