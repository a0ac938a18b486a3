use Rattle.std.proofs.Common.{List, subst}
use Rattle.std.specs.List.Sorted.{IsPermutation}
use Rattle.std.proofs.lemmas.List.Elements.{All-from_recursion, recursion_from_All}
use Rattle.std.proofs.lemmas.List.Sorted.{All-permutation}
use Rattle.index_tree.specs.declared.leaf.Leaf.{Leaf}
use Rattle.leaf_check.specs.Overlaps.{IsNarrow}
use Rattle.leaf_check.proofs.order.in_order.Goals as goal

pub returns-clause-same : goal.returns-clause-same
returns-clause-same c =
    let P : List Leaf → Type 0 = λ xs. IsPermutation xs c.put_in_order.new.leaves.items in
    subst P c.in_ok-ordered.ensures.same c.put_in_order.ensures.same

pub returns-clause-narrow : goal.returns-clause-narrow
returns-clause-narrow c =
    recursion_from_All IsNarrow c.put_in_order.new.leaves.items (All-permutation IsNarrow c.in_ok-ordered.ordered.items c.put_in_order.new.leaves.items c.put_in_order.ensures.same (All-from_recursion IsNarrow c.in_ok-ordered.ordered.items c.in_ok-ordered.ensures.narrow))
