use Rattle.std.proofs.Common.{sym, ap, ◌∙◌}
use Rattle.index_tree.specs.Shape.{first_rank}
use Rattle.index_tree.specs.Tree.{row, leaves_before}
use Rattle.index_tree.proofs.TreeLaws.{no_items}
use Rattle.index_tree.proofs.node.first_key.Goals as goal

pub returns-in-Some : goal.returns-in-Some
returns-in-Some c = sym (ap (λ v. first_rank (leaves_before v (row c.args.nodes.now))) c.in-Some.ensures.cases.0)

pub returns-in-None : goal.returns-in-None
returns-in-None c = c.first_of.ensures ∙ sym (ap (λ v. first_rank (leaves_before v (row c.args.nodes.now))) (no_items c.args.leaves.now c.in-None.ensures.cases))
