use Rattle.std.proofs.Common.{ap, ◌∙◌}
use Rattle.index_tree.specs.Tree.{row, leaves_before}
use Rattle.index_tree.proofs.TreeLaws.{below_made}
use Rattle.index_tree.proofs.rebuild.of_nodes.Goals as goal

pub returns-clause-row : goal.returns-clause-row
returns-clause-row c = (simp below_made at c.keep_first.ensures.children) ∙ ap (λ v. leaves_before v (row c.args.nodes.items)) c.new-made.ensures.no_leaves
