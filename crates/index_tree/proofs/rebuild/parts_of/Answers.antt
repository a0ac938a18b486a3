use Rattle.std.proofs.Common.{ap, ◌∙◌}
use Rattle.index_tree.specs.Listing.{listed_node}
use Rattle.index_tree.specs.Rebuild.{waiting}
use Rattle.index_tree.proofs.Rebuilding.{one_more}
use Rattle.index_tree.proofs.rebuild.parts_of.Goals as goal

pub loop-node-preserved : goal.loop-node-preserved
loop-node-preserved c = record {
  rows = c.in_ok-put_part.ensures.rows ∙ ap (λ v. waiting v (listed_node c.node-item.result)) c.loop-node.invariant.rows ∙ one_more c.args.nodes.now c.loop-node.node-index c.node-item.result c.loop-node-test.true c.node-item.is;
  first_keys = c.put_part.ensures.still_kept;
}
