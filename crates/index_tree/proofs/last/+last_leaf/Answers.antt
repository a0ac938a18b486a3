use Rattle.std.proofs.Common.{rules, ◌≡◌, ◌≤◌, ◌<◌, true, ap, sym, subst, ◌∙◌, arith, List, None}
use Rattle.std.specs.List.{last_or}
use Rattle.index_tree.specs.declared.leaf.Leaf.{Leaf}
use Rattle.index_tree.specs.LastBlock.{up_to}
use Rattle.index_tree.specs.Order.{leaf_rank, ordered_from}
use Rattle.index_tree.proofs.OrderLaws.{ordered_head, ordered-weaken}
use Rattle.index_tree.proofs.LastLeaf.{last_above, last_cons, last_after_none, last_after_some}
use Rattle.index_tree.proofs.last.+last_leaf.Goals as goal

pub last_leaf-requires : goal.last_leaf-requires
last_leaf-requires t c =
    let k = c.args.at in
    let x = c.in-Some.x.now in
    let rest = c.in-Some.rest.now in
    let e = c.in-Some.ensures.cases.0 in
    let P : List Leaf → Type 0 = λ v. ordered_from 0 v ≡ true in
    let o = subst P e c.requires in
    (search rules, ordered-weaken 0 (leaf_rank x) rest (omega arith) (ordered_head 0 x rest o).others)

pub returns-then-rank-at : goal.returns-then-rank-at
returns-then-rank-at t c =
    let k = c.args.at in
    let x = c.in-Some.x.now in
    let rest = c.in-Some.rest.now in
    let e = c.in-Some.ensures.cases.0 in
    let P : List Leaf → Type 0 = λ v. ordered_from 0 v ≡ true in
    let o = subst P e c.requires in
    let above : k < leaf_rank x = omega (arith, c.rank.ensures, c.if-rank-at.true) in
    sym (ap (λ v. last_or None (up_to k v)) e ∙ ap (λ v. last_or None v) (last_above k x rest above o))

pub returns-in-None-last_leaf : goal.returns-in-None-last_leaf
returns-in-None-last_leaf t c =
    let k = c.args.at in
    let x = c.in-Some.x.now in
    let rest = c.in-Some.rest.now in
    let e = c.in-Some.ensures.cases.0 in
    let P : List Leaf → Type 0 = λ v. ordered_from 0 v ≡ true in
    let o = subst P e c.requires in
    let le : leaf_rank x ≤ k = omega (arith, c.rank.ensures, c.if-rank-at.false) in
    sym (ap (λ v. last_or None (up_to k v)) e ∙ last_cons k x rest le ∙ last_after_none x (up_to k rest) c.in-None-last_leaf.ensures)

pub returns-in-Some-last_leaf : goal.returns-in-Some-last_leaf
returns-in-Some-last_leaf t c =
    let k = c.args.at in
    let x = c.in-Some.x.now in
    let rest = c.in-Some.rest.now in
    let e = c.in-Some.ensures.cases.0 in
    let P : List Leaf → Type 0 = λ v. ordered_from 0 v ≡ true in
    let o = subst P e c.requires in
    let le : leaf_rank x ≤ k = omega (arith, c.rank.ensures, c.if-rank-at.false) in
    sym (ap (λ v. last_or None (up_to k v)) e ∙ last_cons k x rest le ∙ last_after_some x c.in-Some-last_leaf.y (up_to k rest) c.in-Some-last_leaf.ensures)
