use Rattle.std.proofs.Common.{ap, arith}
use Rattle.index_tree.specs.Shape.{node_count, shape_weight}
use Rattle.index_tree.specs.Tree.{row}
use Rattle.index_tree.proofs.TreeLaws.{cells, below-cells}
use Rattle.index_tree.proofs.Inserting.{below-nodes, below-weight}
use Rattle.index_tree.proofs.+counting.Goals as goal

pub node::Node::tally-tally_among-requires : goal.node::Node::tally-tally_among-requires
node::Node::tally-tally_among-requires t c =
    let n = c.args.self.now in
    let lent = c.as_slice.ensures.value in
    let small = ap (λ v. cells (row v)) lent in
    omega (arith, below-cells n, small)

pub node::Node::tally-returns-clause-nodes : goal.node::Node::tally-returns-clause-nodes
node::Node::tally-returns-clause-nodes t c =
    let n = c.args.self.now in
    let lent = c.as_slice.ensures.value in
    let size = ap (λ v. node_count (row v)) lent in
    omega (arith, c.in_ok-tally_among.ensures.nodes, below-nodes n, size)

pub node::Node::tally-returns-clause-weight : goal.node::Node::tally-returns-clause-weight
node::Node::tally-returns-clause-weight t c =
    let n = c.args.self.now in
    let lent = c.as_slice.ensures.value in
    let heft = ap (λ v. shape_weight c.args.fanout (row v)) lent in
    omega (arith, c.in_ok-tally_among.ensures.weight, below-weight c.args.fanout n, heft, c.own_weight.ensures)
