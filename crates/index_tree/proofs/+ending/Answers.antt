use Rattle.std.proofs.Common.{◌≡◌, ◌∙◌, ap, sym, subst, arith, List, true, drop, None}
use Rattle.std.specs.List.{last_or}
use Rattle.index_tree.specs.LastBlock.{up_to}
use Rattle.index_tree.specs.declared.node.Node.{Node}
use Rattle.index_tree.specs.declared.node.Node.TheViews.{out-Node}
use Rattle.index_tree.specs.Shape.{node, contents}
use Rattle.index_tree.specs.Tree.{below, row, kept_all}
use Rattle.index_tree.proofs.TreeLaws.{cells, below-filled, kept_cons, kept_node}
use Rattle.index_tree.proofs.Bisection.{leaves_behind, nodes_behind, parts_of, tail_of}
use Rattle.index_tree.proofs.LastLeaf.{last_at_node, last_below}
use Rattle.index_tree.proofs.Search.{at_node}
use Rattle.index_tree.proofs.+ending.Goals as goal

pub last::last_among-last_among-requires : goal.last::last_among-last_among-requires
last::last_among-last_among-requires t c =
    let xs = c.args.nodes.now in
    let one = c.in-Some.one.now in
    let rest = c.in-Some.rest.now in
    let is : row xs ≡ node (below one) (row rest) = ap row c.in-Some.ensures.cases.0 in
    let K : List Node → Type 0 = λ v. kept_all v ≡ true in
    let k = kept_cons one rest (subst K c.in-Some.ensures.cases.0 c.requires.first_keys) in
    let p = at_node (row xs) (below one) (row rest) is c.requires.sound c.requires.ordered in
    let q = last_at_node c.args.at (row xs) (below one) (row rest) is c.requires.sound c.requires.ordered in
    let m = ap cells is in
    (omega (arith, m), (k.tail, (p.filled_rest, p.ordered_rest)))

pub last::last_among-last_within-requires : goal.last::last_among-last_within-requires
last::last_among-last_within-requires t c =
    let xs = c.args.nodes.now in
    let one = c.in-Some.one.now in
    let rest = c.in-Some.rest.now in
    let is : row xs ≡ node (below one) (row rest) = ap row c.in-Some.ensures.cases.0 in
    let K : List Node → Type 0 = λ v. kept_all v ≡ true in
    let k = kept_cons one rest (subst K c.in-Some.ensures.cases.0 c.requires.first_keys) in
    let p = at_node (row xs) (below one) (row rest) is c.requires.sound c.requires.ordered in
    let q = last_at_node c.args.at (row xs) (below one) (row rest) is c.requires.sound c.requires.ordered in
    let m = ap cells is in
    (omega (arith, m), (k.head, (p.filled_children, p.ordered_children)))

pub last::last_among-returns-then-begins_within : goal.last::last_among-returns-then-begins_within
last::last_among-returns-then-begins_within t c =
    let xs = c.args.nodes.now in
    let one = c.in-Some.one.now in
    let rest = c.in-Some.rest.now in
    let is : row xs ≡ node (below one) (row rest) = ap row c.in-Some.ensures.cases.0 in
    let K : List Node → Type 0 = λ v. kept_all v ≡ true in
    let k = kept_cons one rest (subst K c.in-Some.ensures.cases.0 c.requires.first_keys) in
    let p = at_node (row xs) (below one) (row rest) is c.requires.sound c.requires.ordered in
    let q = last_at_node c.args.at (row xs) (below one) (row rest) is c.requires.sound c.requires.ordered in
    let m = ap cells is in
    c.last_among.ensures ∙ sym (q.behind (sym c.begins_within.ensures ∙ c.if-begins_within.true))

pub last::last_among-returns-else-begins_within : goal.last::last_among-returns-else-begins_within
last::last_among-returns-else-begins_within t c =
    let xs = c.args.nodes.now in
    let one = c.in-Some.one.now in
    let rest = c.in-Some.rest.now in
    let is : row xs ≡ node (below one) (row rest) = ap row c.in-Some.ensures.cases.0 in
    let K : List Node → Type 0 = λ v. kept_all v ≡ true in
    let k = kept_cons one rest (subst K c.in-Some.ensures.cases.0 c.requires.first_keys) in
    let p = at_node (row xs) (below one) (row rest) is c.requires.sound c.requires.ordered in
    let q = last_at_node c.args.at (row xs) (below one) (row rest) is c.requires.sound c.requires.ordered in
    let m = ap cells is in
    c.last_within.ensures ∙ sym (q.below (sym c.begins_within.ensures ∙ c.if-begins_within.false))

pub node::Node::last_within-begins_within-requires-clause-first_keys : goal.node::Node::last_within-begins_within-requires-clause-first_keys
node::Node::last_within-begins_within-requires-clause-first_keys t c =
    let n = c.args.self.now in
    let L = (out-Node n).leaves.items in
    let ns = (out-Node n).nodes.items in
    let lent = c.as_slice-nodes.ensures.value in
    rw lent (kept_node n c.requires.first_keys).inside

pub node::Node::last_within-begins_within-requires-clause-sound : goal.node::Node::last_within-begins_within-requires-clause-sound
node::Node::last_within-begins_within-requires-clause-sound t c =
    let n = c.args.self.now in
    let L = (out-Node n).leaves.items in
    let ns = (out-Node n).nodes.items in
    let lent = c.as_slice-nodes.ensures.value in
    rw lent (sym (below-filled n) ∙ c.requires.sound)

pub node::Node::last_within-nodes_passed-requires-clause-first_keys : goal.node::Node::last_within-nodes_passed-requires-clause-first_keys
node::Node::last_within-nodes_passed-requires-clause-first_keys t c =
    rw c.as_slice-nodes.ensures.value (parts_of c.args.self.now c.requires.first_keys c.requires.sound c.requires.ordered).keeps

pub node::Node::last_within-nodes_passed-requires-clause-sound : goal.node::Node::last_within-nodes_passed-requires-clause-sound
node::Node::last_within-nodes_passed-requires-clause-sound t c =
    rw c.as_slice-nodes.ensures.value (parts_of c.args.self.now c.requires.first_keys c.requires.sound c.requires.ordered).sound

pub node::Node::last_within-last_among-requires : goal.node::Node::last_within-last_among-requires
node::Node::last_within-last_among-requires t c =
    let n = c.args.self.now in
    let i = c.nodes_passed.result in
    let back = c.split_at.ensures.back ∙ ap (λ v. drop i v) c.as_slice-nodes.ensures.value in
    let q = tail_of i n c.requires.first_keys c.requires.sound c.requires.ordered in
    let small = ap (λ v. cells (row v)) back in
    (omega (arith, q.small, small), (rw back q.keeps, (rw back q.sound, rw back q.ordered)))

pub node::Node::last_within-returns-then-begins_within : goal.node::Node::last_within-returns-then-begins_within
node::Node::last_within-returns-then-begins_within t c =
    let n = c.args.self.now in
    let at = c.args.at in
    let lent = c.as_slice-nodes.ensures.value in
    let i = c.nodes_passed.result in
    let back = c.split_at.ensures.back ∙ ap (λ v. drop i v) lent in
    let p = parts_of n c.requires.first_keys c.requires.sound c.requires.ordered in
    let r = nodes_behind at i (out-Node n).nodes.items p.sound p.ordered (rw lent at c.nodes_passed.ensures.begins) in
    let q = last_below at n c.requires.sound c.requires.ordered in
    c.last_among.ensures ∙ ap (λ v. last_or None (up_to at (contents (row v)))) back ∙ sym r.last ∙ sym (q.behind (sym (rw lent at c.begins_within.ensures) ∙ c.if-begins_within.true))

pub node::Node::last_within-last_leaf-requires : goal.node::Node::last_within-last_leaf-requires
node::Node::last_within-last_leaf-requires t c =
    let n = c.args.self.now in
    let lent = c.as_slice-leaves.ensures.value in
    let i = c.leaves_passed.result in
    let back = c.split_at-2.ensures.back ∙ ap (λ v. drop i v) lent in
    let p = parts_of n c.requires.first_keys c.requires.sound c.requires.ordered in
    let q = leaves_behind c.args.at i (out-Node n).leaves.items p.own (rw lent at c.leaves_passed.ensures.starts) in
    rw back q.ordered

pub node::Node::last_within-returns : goal.node::Node::last_within-returns
node::Node::last_within-returns t c =
    let n = c.args.self.now in
    let at = c.args.at in
    let given = c.as_slice-nodes.ensures.value in
    let lent = c.as_slice-leaves.ensures.value in
    let i = c.leaves_passed.result in
    let back = c.split_at-2.ensures.back ∙ ap (λ v. drop i v) lent in
    let p = parts_of n c.requires.first_keys c.requires.sound c.requires.ordered in
    let r = leaves_behind at i (out-Node n).leaves.items p.own (rw lent at c.leaves_passed.ensures.starts) in
    let q = last_below at n c.requires.sound c.requires.ordered in
    c.last_leaf.ensures ∙ ap (λ v. last_or None (up_to at v)) back ∙ sym r.last ∙ sym (q.own (sym (rw given at c.begins_within.ensures) ∙ c.if-begins_within.false))
