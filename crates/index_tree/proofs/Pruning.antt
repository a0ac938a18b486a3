-- The steps of the removal of a range.
use Rattle.std.proofs.Common.{◌≡◌, ℕ, ◌+◌, ◌≤◌, Bool, true, if◌then◌else◌, nat_le, refl, ◌∙◌, List, [], ◌∷◌, length, ap, subst, arith, inl, inr}
use Rattle.std.proofs.lemmas.Bool.{cases_Bool}
use Rattle.index_tree.specs.declared.leaf.Leaf.{Leaf}
use Rattle.index_tree.specs.declared.node.Node.{Node}
use Rattle.index_tree.specs.declared.node.Node.TheViews.{out-Node}
use Rattle.index_tree.specs.RangeRemoval.{in_range, pruned, within_range, outside_range}
use Rattle.index_tree.specs.Tree.{below, row, leaves_before}
use Rattle.index_tree.proofs.TreeLaws.{below-contents}
use Rattle.index_tree.specs.Shape.{Shape, leaf, node, contents, node_count, shape_weight, full}
use Rattle.index_tree.proofs.Removing.{Ready, node_right}
use Rattle.std.proofs.lemmas.Bool.Decides.{nat_tests}
use Rattle.std.proofs.lemmas.List.Elements.{filter-append}
use Rattle.std.proofs.Common.{length-append}
use Rattle.index_tree.proofs.GrowthLaws.{node_fits}
use Rattle.index_tree.proofs.RemovalLaws.{full-falls}
use Rattle.index_tree.proofs.RangeLaws.{pruned-shrunk, pruned-whole, without_range-is, without_range-laws, without_range-ordered}

pub ruleset pruning = (nat_tests, node_fits, full-falls, pruned-shrunk, filter-append, length-append)

pub ruleset pruning_rooted = (nat_tests, pruned-whole, without_range-is, without_range-laws, without_range-ordered, pruned-shrunk)

-- what stands behind a node is ready once its children were pruned
pub pruned_ready : (f n w m v m' v' : ℕ) (b : Bool) (s c d rest : Shape) → s ≡ node c rest → Ready f n w s → m + node_count c ≡ n + node_count d → v + shape_weight f c ≡ w + shape_weight f d → m' ≡ m → v' + (if b then 1 else 0) ≡ v + full f d → Ready f m' v' rest
pruned_ready f n w m v m' v' b s c d rest is r nodes weight same counted =
    let P : Shape → Type 0 = λ k. Ready f n w k in
    let q = subst P is r in
    let p = node_right f n w s c rest is r in
    let one : (if b then 1 else 0) ≤ 1 = elim (cases_Bool b) [ inl e ↦ rw e (omega arith) | inr e ↦ rw e (omega arith) ] in
    record {
      sound = p.sound;
      ordered = p.ordered;
      nodes_there = omega (arith, q.nodes_there);
      weight_there = omega (arith, q.weight_there);
    }

pub pruned-leaves : (from to : ℕ) (xs : List Leaf) (s : Shape) → pruned from to (leaves_before xs s) ≡ leaves_before (outside_range from to xs) (pruned from to s)
pruned-leaves from to [] s = refl
pruned-leaves from to (x ∷ xs) s = elim (cases_Bool (in_range from to x)) [
  | inl e ↦ rw e (pruned-leaves from to xs s)
  | inr e ↦ rw e (ap (λ v. leaf x v) (pruned-leaves from to xs s))
]

pub range-parts : (from to : ℕ) (xs : List Leaf) → length xs ≡ length (within_range from to xs) + length (outside_range from to xs)
range-parts from to [] = omega arith
range-parts from to (x ∷ xs) = elim (cases_Bool (in_range from to x)) [
  | inl e ↦ rw e (omega (arith, range-parts from to xs))
  | inr e ↦ rw e (omega (arith, range-parts from to xs))
]

-- the leaves of a range below a node
pub range-below : (from to : ℕ) (n : Node) → length (within_range from to (contents (below n))) ≡ length (within_range from to (out-Node n).leaves.items) + length (within_range from to (contents (row (out-Node n).nodes.items)))
range-below from to n =
    ap length (ap (λ v. within_range from to v) (below-contents n) ∙ filter-append (λ x. in_range from to x) (out-Node n).leaves.items (contents (row (out-Node n).nodes.items)))
    ∙ length-append (within_range from to (out-Node n).leaves.items) (within_range from to (contents (row (out-Node n).nodes.items)))
