use Rattle.std.proofs.Common.{◌≡◌, ◌+◌, ◌-◌, true, ap, sym, subst, ◌∙◌, arith, List, length, length-append, drop, Some}
use Rattle.std.specs.Prelude.{slice_get}
use Rattle.index_tree.specs.declared.node.Node.{Node}
use Rattle.index_tree.specs.declared.node.Node.TheViews.{out-Node}
use Rattle.index_tree.specs.Order.{of_rank}
use Rattle.index_tree.specs.Shape.{contents}
use Rattle.index_tree.specs.Tree.{below, row, kept_all}
use Rattle.index_tree.proofs.TreeLaws.{cells, kept_cons}
use Rattle.index_tree.proofs.Bisection.{leaves_behind, leaves_of_rank, nodes_of_rank, parts_of, tail_of}
use Rattle.index_tree.proofs.Search.{at_node, length_apart, get_left, get_right, of_rank_below}
use Rattle.index_tree.proofs.+finding.Goals as goal

pub find::find_among-find_among-requires : goal.find::find_among-find_among-requires
find::find_among-find_among-requires t c =
    let K : List Node → Type 0 = λ v. kept_all v ≡ true in
    let is = ap row c.in-Some.ensures.cases.0 in
    let k = kept_cons c.in-Some.one.now c.in-Some.rest.now (subst K c.in-Some.ensures.cases.0 c.requires.first_keys) in
    let p = at_node (row c.args.nodes.now) (below c.in-Some.one.now) (row c.in-Some.rest.now) is c.requires.sound c.requires.ordered in
    let m = ap cells is in
    (omega (arith, m), (k.tail, (p.filled_rest, p.ordered_rest)))

pub find::find_among-find_among-requires-then-begins_within : goal.find::find_among-find_among-requires-then-begins_within
find::find_among-find_among-requires-then-begins_within t c =
    let K : List Node → Type 0 = λ v. kept_all v ≡ true in
    let is = ap row c.in-Some.ensures.cases.0 in
    let k = kept_cons c.in-Some.one.now c.in-Some.rest.now (subst K c.in-Some.ensures.cases.0 c.requires.first_keys) in
    let p = at_node (row c.args.nodes.now) (below c.in-Some.one.now) (row c.in-Some.rest.now) is c.requires.sound c.requires.ordered in
    let m = ap cells is in
    (omega (arith, m), (k.tail, (p.filled_rest, p.ordered_rest)))

pub find::find_among-returns-else-begins_within-clause-few : goal.find::find_among-returns-else-begins_within-clause-few
find::find_among-returns-else-begins_within-clause-few t c =
    let is = ap row c.in-Some.ensures.cases.0 in
    let p = at_node (row c.args.nodes.now) (below c.in-Some.one.now) (row c.in-Some.rest.now) is c.requires.sound c.requires.ordered in
    let none = p.none_right c.args.at (sym c.begins_within.ensures ∙ c.if-begins_within.false) in
    c.in-Err.ensures.few ∙ ap (λ n. n + c.in-Err.left) (length_apart c.args.at (row c.args.nodes.now) (below c.in-Some.one.now) (row c.in-Some.rest.now) is none)

pub node::Node::find-find_leaf-requires : goal.node::Node::find-find_leaf-requires
node::Node::find-find_leaf-requires t c =
    let n = c.args.self.now in
    let xs = (out-Node n).leaves.items in
    let lent = c.as_slice-leaves.ensures.value in
    let i = c.lower_leaves_passed.result in
    let back = c.split_at.ensures.back ∙ ap (λ v. drop i v) lent in
    let p = parts_of n c.requires.first_keys c.requires.sound c.requires.ordered in
    let q = leaves_behind (c.args.at - 1) i xs p.own (rw lent at c.lower_leaves_passed.ensures.starts) in
    record { ordered = rw back q.ordered }

pub node::Node::find-returns-in-Ok-clause-found : goal.node::Node::find-returns-in-Ok-clause-found
node::Node::find-returns-in-Ok-clause-found t c =
    let n = c.args.self.now in
    let at = c.args.at in
    let xs = (out-Node n).leaves.items in
    let lent = c.as_slice-leaves.ensures.value in
    let i = c.lower_leaves_passed.result in
    let back = c.split_at.ensures.back ∙ ap (λ v. drop i v) lent in
    let p = parts_of n c.requires.first_keys c.requires.sound c.requires.ordered in
    let same = leaves_of_rank at i xs p.own c.lower_leaves_passed.ensures.positive (rw lent at c.lower_leaves_passed.ensures.starts) in
    let found : slice_get (of_rank at xs) c.args.nth ≡ Some c.in-Ok.x = ap (λ v. slice_get v c.args.nth) same ∙ ap (λ v. slice_get (of_rank at v) c.args.nth) (sym back) ∙ c.in-Ok.ensures.found in
    ap (λ v. slice_get v c.args.nth) (of_rank_below at n) ∙ get_left (of_rank at xs) (of_rank at (contents (row (out-Node n).nodes.items))) c.args.nth c.in-Ok.x found

pub node::Node::find-lower_nodes_passed-requires-clause-first_keys : goal.node::Node::find-lower_nodes_passed-requires-clause-first_keys
node::Node::find-lower_nodes_passed-requires-clause-first_keys t c =
    rw c.as_slice-nodes.ensures.value (parts_of c.args.self.now c.requires.first_keys c.requires.sound c.requires.ordered).keeps

pub node::Node::find-lower_nodes_passed-requires-clause-sound : goal.node::Node::find-lower_nodes_passed-requires-clause-sound
node::Node::find-lower_nodes_passed-requires-clause-sound t c =
    rw c.as_slice-nodes.ensures.value (parts_of c.args.self.now c.requires.first_keys c.requires.sound c.requires.ordered).sound

pub node::Node::find-find_among-requires : goal.node::Node::find-find_among-requires
node::Node::find-find_among-requires t c =
    let n = c.args.self.now in
    let i = c.lower_nodes_passed.result in
    let back = c.split_at-in-Err.ensures.back ∙ ap (λ v. drop i v) c.as_slice-nodes.ensures.value in
    let q = tail_of i n c.requires.first_keys c.requires.sound c.requires.ordered in
    let small = ap (λ v. cells (row v)) back in
    (omega (arith, q.small, small), (rw back q.keeps, (rw back q.sound, rw back q.ordered)))

pub node::Node::find-returns-in-Ok-find_among-clause-found : goal.node::Node::find-returns-in-Ok-find_among-clause-found
node::Node::find-returns-in-Ok-find_among-clause-found t c =
    let n = c.args.self.now in
    let at = c.args.at in
    let xs = (out-Node n).leaves.items in
    let ns = (out-Node n).nodes.items in
    let lent = c.as_slice-leaves.ensures.value in
    let i = c.lower_leaves_passed.result in
    let back = c.split_at.ensures.back ∙ ap (λ v. drop i v) lent in
    let p = parts_of n c.requires.first_keys c.requires.sound c.requires.ordered in
    let same = leaves_of_rank at i xs p.own c.lower_leaves_passed.ensures.positive (rw lent at c.lower_leaves_passed.ensures.starts) in
    let few = c.in-Err.ensures.few ∙ ap (λ v. length (of_rank at v) + c.in-Err.left) back ∙ ap (λ v. length v + c.in-Err.left) (sym same) in
    let given = c.as_slice-nodes.ensures.value in
    let j = c.lower_nodes_passed.result in
    let rest = c.split_at-in-Err.ensures.back ∙ ap (λ v. drop j v) given in
    let others = nodes_of_rank at j ns p.sound p.ordered c.lower_nodes_passed.ensures.positive (rw given at c.lower_nodes_passed.ensures.begins) in
    let found : slice_get (of_rank at (contents (row ns))) c.in-Err.left ≡ Some c.in-Ok-find_among.y = ap (λ v. slice_get v c.in-Err.left) others ∙ ap (λ v. slice_get (of_rank at (contents (row v))) c.in-Err.left) (sym rest) ∙ c.in-Ok-find_among.ensures.found in
    ap (λ v. slice_get v c.args.nth) (of_rank_below at n) ∙ get_right (of_rank at xs) (of_rank at (contents (row ns))) c.args.nth c.in-Err.left few ∙ found

pub node::Node::find-returns-in-Err-find_among-clause-few : goal.node::Node::find-returns-in-Err-find_among-clause-few
node::Node::find-returns-in-Err-find_among-clause-few t c =
    let n = c.args.self.now in
    let at = c.args.at in
    let xs = (out-Node n).leaves.items in
    let ns = (out-Node n).nodes.items in
    let lent = c.as_slice-leaves.ensures.value in
    let i = c.lower_leaves_passed.result in
    let back = c.split_at.ensures.back ∙ ap (λ v. drop i v) lent in
    let p = parts_of n c.requires.first_keys c.requires.sound c.requires.ordered in
    let same = leaves_of_rank at i xs p.own c.lower_leaves_passed.ensures.positive (rw lent at c.lower_leaves_passed.ensures.starts) in
    let few = c.in-Err.ensures.few ∙ ap (λ v. length (of_rank at v) + c.in-Err.left) back ∙ ap (λ v. length v + c.in-Err.left) (sym same) in
    let given = c.as_slice-nodes.ensures.value in
    let j = c.lower_nodes_passed.result in
    let rest = c.split_at-in-Err.ensures.back ∙ ap (λ v. drop j v) given in
    let others = nodes_of_rank at j ns p.sound p.ordered c.lower_nodes_passed.ensures.positive (rw given at c.lower_nodes_passed.ensures.begins) in
    let more = c.in-Err-find_among.ensures.few ∙ ap (λ v. length (of_rank at (contents (row v))) + c.in-Err-find_among.few) rest ∙ ap (λ v. length v + c.in-Err-find_among.few) (sym others) in
    let all = ap length (of_rank_below at n) in
    let sum = length-append (of_rank at xs) (of_rank at (contents (row ns))) in
    omega (arith, few, more, all, sum)
