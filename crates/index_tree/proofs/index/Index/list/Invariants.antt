use Rattle.std.proofs.Common.{◌≡◌, map}
use Rattle.index_tree.specs.Listing.{listed_node, levels_below}
use Rattle.index_tree.specs.Tree.{shape}
use Rattle.index_tree.proofs.index.Index.list.Given as goal

abbrev pub invariant-loop-level : goal.invariant-loop-level
invariant-loop-level l = map listed_node l.nodes.items ≡ levels_below l.level (shape l.self.root)
