use Rattle.std.proofs.Common.{◌≡◌, ◌≢◌, ◌<◌, ◌∙◌, ap, sym, subst, arith, inl, inr, List, [], length, true}
use Rattle.std.proofs.lemmas.Bool.Decides.{nat_tests}
use Rattle.index_tree.specs.declared.node.Node.{Node}
use Rattle.index_tree.specs.declared.node.Node.TheViews.{out-Node}
use Rattle.index_tree.proofs.GrowthLaws.{below-full}
use Rattle.index_tree.specs.Removal.{collapsed}
use Rattle.index_tree.specs.Shape.{done, node, count, node_count, shape_weight}
use Rattle.index_tree.specs.Tree.{below, kept_all}
use Rattle.index_tree.proofs.TreeLaws.{cells, kept_cons, kept_node}
use Rattle.index_tree.proofs.Removing.{stays, one_child, lone_child}
use Rattle.index_tree.proofs.node.Node.+collapse.Goals as goal

pub returns-then-not-is_empty-clause-collapse : goal.returns-then-not-is_empty-clause-collapse
returns-then-not-is_empty-clause-collapse t c =
    let n = c.args.self.now in
    let some : 0 < length (out-Node n).leaves.items = grind (arith, nat_tests, c.is_empty.ensures, c.if-not-is_empty.true, (out-Node n).leaves.ok.0) in
    stays n (inl some)

pub returns-then-len-ne1-clause-collapse : goal.returns-then-len-ne1-clause-collapse
returns-then-len-ne1-clause-collapse t c =
    let n = c.args.self.now in
    let other : length (out-Node n).nodes.items ≢ 1 = λ e. c.if-len-ne1.true (c.len.ensures ∙ (out-Node n).nodes.ok.0 ∙ e) in
    stays n (inr other)

pub collapse-requires : goal.collapse-requires
collapse-requires t c =
    let n = c.args.self.now in
    let f = c.args.fanout in
    let child = c.in-Some.child in
    let none : length (out-Node n).leaves.items ≡ 0 = grind (arith, nat_tests, c.is_empty.ensures, c.if-not-is_empty.false, (out-Node n).leaves.ok.0) in
    let one : length (out-Node n).nodes.items ≡ 1 = omega (arith, c.len.ensures, c.if-len-ne1.false, (out-Node n).nodes.ok.0) in
    let alone = one_child n child c.pop.new.self.items one c.in-Some.ensures.items in
    let is = lone_child n child none alone in
    let K : List Node → Type 0 = λ v. kept_all v ≡ true in
    let k = kept_cons child [] (subst K alone (kept_node n c.requires.first_keys).inside) in
    let small = ap cells is in
    let size = ap node_count is in
    let heft = ap (λ v. shape_weight f v) is in
    (omega (arith, small), (c.requires.least, (k.head, (omega (arith, size), omega (arith, heft)))))

pub returns-in-Some-clause-collapse : goal.returns-in-Some-clause-collapse
returns-in-Some-clause-collapse t c =
    let n = c.args.self.now in
    let f = c.args.fanout in
    let child = c.in-Some.child in
    let none : length (out-Node n).leaves.items ≡ 0 = grind (arith, nat_tests, c.is_empty.ensures, c.if-not-is_empty.false, (out-Node n).leaves.ok.0) in
    let one : length (out-Node n).nodes.items ≡ 1 = omega (arith, c.len.ensures, c.if-len-ne1.false, (out-Node n).nodes.ok.0) in
    let alone = one_child n child c.pop.new.self.items one c.in-Some.ensures.items in
    let is = lone_child n child none alone in
    c.collapse.ensures.collapse ∙ sym (ap (λ v. collapsed (node v done)) is)

pub returns-in-Some-clause-nodes : goal.returns-in-Some-clause-nodes
returns-in-Some-clause-nodes t c =
    let n = c.args.self.now in
    let f = c.args.fanout in
    let child = c.in-Some.child in
    let none : length (out-Node n).leaves.items ≡ 0 = grind (arith, nat_tests, c.is_empty.ensures, c.if-not-is_empty.false, (out-Node n).leaves.ok.0) in
    let one : length (out-Node n).nodes.items ≡ 1 = omega (arith, c.len.ensures, c.if-len-ne1.false, (out-Node n).nodes.ok.0) in
    let alone = one_child n child c.pop.new.self.items one c.in-Some.ensures.items in
    let is = lone_child n child none alone in
    let size = ap node_count is in
    omega (arith, size, c.collapse.ensures.nodes)

pub returns-in-Some-clause-weight : goal.returns-in-Some-clause-weight
returns-in-Some-clause-weight t c =
    let n = c.args.self.now in
    let f = c.args.fanout in
    let child = c.in-Some.child in
    let none : length (out-Node n).leaves.items ≡ 0 = grind (arith, nat_tests, c.is_empty.ensures, c.if-not-is_empty.false, (out-Node n).leaves.ok.0) in
    let one : length (out-Node n).nodes.items ≡ 1 = omega (arith, c.len.ensures, c.if-len-ne1.false, (out-Node n).nodes.ok.0) in
    let alone = one_child n child c.pop.new.self.items one c.in-Some.ensures.items in
    let is = lone_child n child none alone in
    let heft = ap (λ v. shape_weight f v) is in
    let many = ap count is in
    omega (arith, heft, c.collapse.ensures.weight, below-full f (below n) (omega (arith, many)))
