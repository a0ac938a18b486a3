use Rattle.std.proofs.Common.{◌≡◌, ◌∙◌, Some, None, ap, sym, subst, arith, List, true, drop}
use Rattle.index_tree.specs.Order.{first_after}
use Rattle.index_tree.specs.Shape.{contents}
use Rattle.index_tree.specs.Tree.{below, row, kept_all}
use Rattle.index_tree.specs.declared.node.Node.{Node}
use Rattle.index_tree.specs.declared.node.Node.TheViews.{out-Node}
use Rattle.index_tree.proofs.Bisection.{leaves_behind, nodes_behind, parts_of, tail_of}
use Rattle.index_tree.proofs.Following.{after_behind, after_inside, after_past, after_own, after_below}
use Rattle.index_tree.proofs.Search.{at_node}
use Rattle.index_tree.proofs.TreeLaws.{cells, kept_cons}
use Rattle.index_tree.proofs.+following.Goals as goal

pub after::after_among-after_among-requires : goal.after::after_among-after_among-requires
after::after_among-after_among-requires t c =
    let is = ap row c.in-Some.ensures.cases.0 in
    let K : List Node → Type 0 = λ v. kept_all v ≡ true in
    let k = kept_cons c.in-Some.one.now c.in-Some.rest.now (subst K c.in-Some.ensures.cases.0 c.requires.first_keys) in
    let p = at_node (row c.args.nodes.now) (below c.in-Some.one.now) (row c.in-Some.rest.now) is c.requires.sound c.requires.ordered in
    let m = ap cells is in
    (omega (arith, m), (k.tail, (p.filled_rest, p.ordered_rest)))

pub after::after_among-returns-then-begins_within : goal.after::after_among-returns-then-begins_within
after::after_among-returns-then-begins_within t c =
    let is = ap row c.in-Some.ensures.cases.0 in
    c.after_among.ensures ∙ sym (after_behind c.args.at (row c.args.nodes.now) (below c.in-Some.one.now) (row c.in-Some.rest.now) is c.requires.sound c.requires.ordered (sym c.begins_within.ensures ∙ c.if-begins_within.true))

pub after::after_among-after-requires : goal.after::after_among-after-requires
after::after_among-after-requires t c =
    let is = ap row c.in-Some.ensures.cases.0 in
    let K : List Node → Type 0 = λ v. kept_all v ≡ true in
    let k = kept_cons c.in-Some.one.now c.in-Some.rest.now (subst K c.in-Some.ensures.cases.0 c.requires.first_keys) in
    let p = at_node (row c.args.nodes.now) (below c.in-Some.one.now) (row c.in-Some.rest.now) is c.requires.sound c.requires.ordered in
    let m = ap cells is in
    (omega (arith, m), (k.head, (p.filled_children, p.ordered_children)))

pub after::after_among-after_among-requires-in-None-after : goal.after::after_among-after_among-requires-in-None-after
after::after_among-after_among-requires-in-None-after t c =
    let is = ap row c.in-Some.ensures.cases.0 in
    let K : List Node → Type 0 = λ v. kept_all v ≡ true in
    let k = kept_cons c.in-Some.one.now c.in-Some.rest.now (subst K c.in-Some.ensures.cases.0 c.requires.first_keys) in
    let p = at_node (row c.args.nodes.now) (below c.in-Some.one.now) (row c.in-Some.rest.now) is c.requires.sound c.requires.ordered in
    let m = ap cells is in
    (omega (arith, m), (k.tail, (p.filled_rest, p.ordered_rest)))

pub after::after_among-returns-in-Some-after : goal.after::after_among-returns-in-Some-after
after::after_among-returns-in-Some-after t c =
    let is = ap row c.in-Some.ensures.cases.0 in
    sym (after_inside c.args.at (row c.args.nodes.now) (below c.in-Some.one.now) (row c.in-Some.rest.now) c.in-Some-after.x is (sym c.in-Some-after.ensures))

pub after::after_among-returns-in-None-after : goal.after::after_among-returns-in-None-after
after::after_among-returns-in-None-after t c =
    let is = ap row c.in-Some.ensures.cases.0 in
    c.after_among-in-None-after.ensures ∙ sym (after_past c.args.at (row c.args.nodes.now) (below c.in-Some.one.now) (row c.in-Some.rest.now) is (sym c.in-None-after.ensures))

pub node::Node::after-nodes_passed-requires-clause-first_keys : goal.node::Node::after-nodes_passed-requires-clause-first_keys
node::Node::after-nodes_passed-requires-clause-first_keys t c =
    let n = c.args.self.now in
    rw c.as_slice-nodes.ensures.value (parts_of n c.requires.first_keys c.requires.sound c.requires.ordered).keeps

pub node::Node::after-nodes_passed-requires-clause-sound : goal.node::Node::after-nodes_passed-requires-clause-sound
node::Node::after-nodes_passed-requires-clause-sound t c =
    let n = c.args.self.now in
    rw c.as_slice-nodes.ensures.value (parts_of n c.requires.first_keys c.requires.sound c.requires.ordered).sound

pub node::Node::after-after_among-requires : goal.node::Node::after-after_among-requires
node::Node::after-after_among-requires t c =
    let n = c.args.self.now in
    let i = c.nodes_passed.result in
    let back = c.split_at-in-None.ensures.back ∙ ap (λ v. drop i v) c.as_slice-nodes.ensures.value in
    let q = tail_of i n c.requires.first_keys c.requires.sound c.requires.ordered in
    let small = ap (λ v. cells (row v)) back in
    (omega (arith, q.small, small), (rw back q.keeps, (rw back q.sound, rw back q.ordered)))

pub node::Node::after-returns-in-Some : goal.node::Node::after-returns-in-Some
node::Node::after-returns-in-Some t c =
    let n = c.args.self.now in
    let at = c.args.at in
    let xs = (out-Node n).leaves.items in
    let lent = c.as_slice-leaves.ensures.value in
    let i = c.leaves_passed.result in
    let back = c.split_at.ensures.back ∙ ap (λ v. drop i v) lent in
    let p = parts_of n c.requires.first_keys c.requires.sound c.requires.ordered in
    let q = leaves_behind at i xs p.own (rw lent at c.leaves_passed.ensures.starts) in
    let found : first_after at (drop i xs) ≡ Some c.in-Some.x = ap (λ v. first_after at v) (sym back) ∙ sym c.in-Some.ensures in
    sym (after_own at n c.in-Some.x (q.after ∙ found))

pub node::Node::after-returns-in-None : goal.node::Node::after-returns-in-None
node::Node::after-returns-in-None t c =
    let n = c.args.self.now in
    let at = c.args.at in
    let xs = (out-Node n).leaves.items in
    let ns = (out-Node n).nodes.items in
    let lent = c.as_slice-leaves.ensures.value in
    let i = c.leaves_passed.result in
    let back = c.split_at.ensures.back ∙ ap (λ v. drop i v) lent in
    let p = parts_of n c.requires.first_keys c.requires.sound c.requires.ordered in
    let q = leaves_behind at i xs p.own (rw lent at c.leaves_passed.ensures.starts) in
    let none : first_after at (drop i xs) ≡ None = ap (λ v. first_after at v) (sym back) ∙ sym c.in-None.ensures in
    let given = c.as_slice-nodes.ensures.value in
    let j = c.nodes_passed.result in
    let rest = c.split_at-in-None.ensures.back ∙ ap (λ v. drop j v) given in
    let r = nodes_behind at j ns p.sound p.ordered (rw given at c.nodes_passed.ensures.begins) in
    c.after_among.ensures ∙ ap (λ v. first_after at (contents (row v))) rest ∙ sym r.after ∙ sym (after_below at n (q.after ∙ none))
