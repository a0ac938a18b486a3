use Rattle.std.proofs.Common.{rules, ◌≡◌, ◌+◌, ◌<◌, ◌^◌, ◌∙◌, sym, refl, arith}
use Rattle.index_tree.specs.declared.node.Node.TheViews.{out-Node}
use Rattle.index_tree.specs.Listing.{row_leaves}
use Rattle.index_tree.specs.Shape.{count}
use Rattle.index_tree.specs.Tree.{below}
use Rattle.index_tree.proofs.TreeLaws.{below-count}
use Rattle.index_tree.proofs.NodeList.{below-leaves}
use Rattle.index_tree.proofs.node.Node.as_node.Goals as goal

pub overflow_cast-count : goal.overflow_cast-count
overflow_cast-count c =
    let n = c.args.self.now in
    let many : c.len.result + c.len-2.result ≡ count (below n) = omega (arith, c.len.ensures, c.len-2.ensures, (out-Node n).leaves.ok.0, (out-Node n).nodes.ok.0, below-count n) in
    let small : c.len.result + c.len-2.result < 2 ^ 32 = omega arith in
    search (rules, small)

pub returns : goal.returns
returns c =
    let n = c.args.self.now in
    let many : c.len.result + c.len-2.result ≡ count (below n) = omega (arith, c.len.ensures, c.len-2.ensures, (out-Node n).leaves.ok.0, (out-Node n).nodes.ok.0, below-count n) in
    let own : c.in_ok-leaves.leaves.items ≡ row_leaves (below n) = c.in_ok-leaves.ensures.items ∙ c.as_slice.ensures.value ∙ sym (below-leaves n) in
    rw (many, own) refl
