use Rattle.std.proofs.Common.{ap, sym, ◌∙◌}
use Rattle.media_leaf.specs.LeafNode.{written}
use Rattle.fs_model.specs.declared.change.Change.{Change}
use Rattle.group_nodes.specs.Nodes.{node_of}
use Rattle.group_nodes.proofs.node.write_node.Goals as goal

pub returns-in-DropEntry : goal.returns-in-DropEntry
returns-in-DropEntry c = c.write_dropped.ensures ∙ ap (λ (change : Change). written c.args.sqnum c.args.group (node_of change)) (sym c.in-DropEntry.is)
