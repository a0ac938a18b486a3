use Rattle.std.proofs.Common.{refl}
use Rattle.index_tree.specs.declared.node.Node.TheViews.{out-Node, out-roll-Node}
use Rattle.index_tree.proofs.TreeLaws.{node_keeps, below_same}
use Rattle.index_tree.proofs.node.Node.keep_first.Goals as goal

pub returns-clause-children : goal.returns-clause-children
returns-clause-children c =
    let n = c.args.self.now in
    simp out-roll-Node (below_same n (record { first = c.first_key-first.result; leaves = (out-Node n).leaves; nodes = (out-Node n).nodes }) refl refl)

pub returns-clause-keeps : goal.returns-clause-keeps
returns-clause-keeps c =
    let n = c.args.self.now in
    let first = rw (c.as_slice.ensures.value, c.as_slice-2.ensures.value) at c.first_key-first.ensures in
    simp out-roll-Node (node_keeps (record { first = c.first_key-first.result; leaves = (out-Node n).leaves; nodes = (out-Node n).nodes }) first c.requires)
