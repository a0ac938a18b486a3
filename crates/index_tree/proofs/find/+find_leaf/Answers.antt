use Rattle.std.proofs.Common.{rules, ◌≡◌, true, ap, subst, ◌∙◌, arith, List}
use Rattle.index_tree.specs.declared.leaf.Leaf.{Leaf}
use Rattle.index_tree.specs.Order.{leaf_rank, ordered_from, of_rank}
use Rattle.index_tree.proofs.OrderLaws.{ordered_head, ordered-weaken}
use Rattle.index_tree.proofs.Search.{none_here}
use Rattle.index_tree.proofs.find.+find_leaf.Goals as goal

pub find_leaf-requires : goal.find_leaf-requires
find_leaf-requires t c =
    let P : List Leaf → Type 0 = λ v. ordered_from 0 v ≡ true in
    let o = subst P c.in-Some.ensures.cases.0 c.requires.ordered in
    (search rules, ordered-weaken 0 (leaf_rank c.in-Some.x.now) c.in-Some.rest.now (omega arith) (ordered_head 0 c.in-Some.x.now c.in-Some.rest.now o).others)

pub find_leaf-requires-in-Some : goal.find_leaf-requires-in-Some
find_leaf-requires-in-Some t c =
    let P : List Leaf → Type 0 = λ v. ordered_from 0 v ≡ true in
    let o = subst P c.in-Some.ensures.cases.0 c.requires.ordered in
    (search rules, ordered-weaken 0 (leaf_rank c.in-Some.x.now) c.in-Some.rest.now (omega arith) (ordered_head 0 c.in-Some.x.now c.in-Some.rest.now o).others)

pub returns-then-here-at-2-clause-few : goal.returns-then-here-at-2-clause-few
returns-then-here-at-2-clause-few t c =
    let P : List Leaf → Type 0 = λ v. ordered_from 0 v ≡ true in
    let e = c.in-Some.ensures.cases.0 in
    let o = subst P e c.requires.ordered in
    let above = rw c.rank-here.ensures at c.if-here-at-2.true in
    let none = ap (λ v. of_rank c.args.at v) e ∙ none_here c.args.at c.in-Some.x.now c.in-Some.rest.now above o in
    rw none (omega arith)
