use Rattle.std.proofs.Common.{sym}
use Rattle.index_tree.specs.Tree.{shape}
use Rattle.index_tree.proofs.index.Index.copied.Goals as goal

pub of-requires-clause-of_an_index : goal.of-requires-clause-of_an_index
of-requires-clause-of_an_index c = (shape c.args.self.now.root, c.list.ensures.of_an_index, c.in_ok-nodes.ensures.nodes)

pub returns-clause-same : goal.returns-clause-same
returns-clause-same c = c.in_ok-made.ensures.only (shape c.args.self.now.root) c.list.ensures.of_an_index (sym c.in_ok-nodes.ensures.nodes)
