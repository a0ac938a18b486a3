use Rattle.std.proofs.Common.{◌≡◌, ◌-◌, ◌<◌, ◌++◌, ◌∙◌, ap, sym, subst, arith, true, false, length, map, append-nil}
use Rattle.std.specs.Prelude.{◌==◌}
use Rattle.std.proofs.lemmas.Bool.Decides.{nat_tests}
use Rattle.index_tree.specs.declared.node.Node.TheViews.{out-Node}
use Rattle.index_tree.proofs.GrowthLaws.{node_fits}
use Rattle.index_tree.specs.Listing.{listed_node, level_nodes}
use Rattle.index_tree.specs.Shape.{Shape, done, node, fits}
use Rattle.index_tree.specs.Tree.{below, row}
use Rattle.index_tree.proofs.TreeLaws.{cells, below-cells}
use Rattle.index_tree.proofs.Inserting.{below-fits}
use Rattle.index_tree.proofs.NodeList.{level_past, lowest-level, only_nodes}
use Rattle.index_tree.proofs.listing.+listing.Goals as goal

pub push_level-push_level-requires : goal.push_level-push_level-requires
push_level-push_level-requires t c =
    let f = c.args.fanout in
    let is : row c.args.nodes.now ≡ node (below c.in-Some.one.now) (row c.in-Some.rest.now) = ap row c.in-Some.ensures.cases.0 in
    let S : Shape → Type 0 = λ v. fits f v ≡ true in
    let p = node_fits f (below c.in-Some.one.now) (row c.in-Some.rest.now) (subst S is c.requires.sound) in
    let m = ap cells is in
    (omega (arith, m), (c.requires.most, p.others))

pub push_node-push_level-requires : goal.push_node-push_level-requires
push_node-push_level-requires t c =
    let one = c.args.one.now in
    let f = c.args.fanout in
    let lent = c.as_slice.ensures.value in
    let small = ap (λ v. cells (row v)) lent in
    (omega (arith, below-cells one, small), (c.requires.most, ap (λ v. fits f (row v)) lent ∙ sym (below-fits f one) ∙ (node_fits f (below one) done c.requires.sound).children))

pub push_node-returns-then-is_empty : goal.push_node-returns-then-is_empty
push_node-returns-then-is_empty t c =
    let one = c.args.one.now in
    let none : length (out-Node one).leaves.items ≡ 0 = grind (arith, nat_tests, c.is_empty.ensures, c.if-is_empty.true, (out-Node one).leaves.ok.0) in
    let other : (c.args.high - 1 == c.args.level) ≡ false = grind (arith, nat_tests, c.saturating_sub-under.ensures, c.if-under-level.false) in
    let past = level_past c.args.level c.args.high (below one) other in
    let level = c.args.level in
    let high = c.args.high in
    let shown = map listed_node c.args.list.now.items in
    c.in_ok-push_level.ensures ∙ ap (λ v. shown ++ v) (ap (λ k. level_nodes level k (row c.as_slice.result.now)) c.saturating_sub-under.ensures ∙ ap (λ v. level_nodes level (high - 1) (row v)) c.as_slice.ensures.value ∙ ap (λ v. level_nodes level (high - 1) v) (sym (only_nodes one none)) ∙ sym past)

pub push_node-returns : goal.push_node-returns
push_node-returns t c =
    let one = c.args.one.now in
    let some : 0 < length (out-Node one).leaves.items = grind (arith, nat_tests, c.is_empty.ensures, c.if-is_empty.false, (out-Node one).leaves.ok.0) in
    let other : (c.args.high - 1 == c.args.level) ≡ false = grind (arith, nat_tests, c.saturating_sub-under.ensures, c.if-under-level.false) in
    let past = level_past c.args.level c.args.high (below one) other in
    sym (ap (λ v. map listed_node c.args.list.now.items ++ v) (past ∙ lowest-level c.args.level (c.args.high - 1) one some) ∙ append-nil (map listed_node c.args.list.now.items))
