use Rattle.std.proofs.Common.{◌∙◌}
use Rattle.index_tree.specs.declared.node.Node.TheViews.{out-Node}
use Rattle.index_tree.proofs.TreeLaws.{below_made}
use Rattle.index_tree.proofs.Rebuilding.{leaves_alone}
use Rattle.index_tree.proofs.rebuild.of_leaves.Goals as goal

pub returns-clause-row : goal.returns-clause-row
returns-clause-row c =
    (simp below_made at c.keep_first.ensures.children) ∙ leaves_alone c.in_ok-made.field-0.items c.args.leaves.now (out-Node c.new-made.result).nodes.items c.new-made.ensures.no_nodes c.in_ok-made.ensures.items
