use Rattle.shown_leaves.proofs.Stored.{none_is, none_of_four}
use Rattle.shown_leaves.proofs.reading.node_in.Goals as goal

pub returns : goal.returns
returns c =
    none_of_four c.args.bytes.now
    (none_is c.in_ok-node-3.field-0 _ c.in_default-3.is c.in_ok-node-3.ensures.none)
    (none_is c.in_ok-node.field-0 _ c.in_default.is c.in_ok-node.ensures.none)
    (none_is c.in_ok-node-2.field-0 _ c.in_default-2.is c.in_ok-node-2.ensures.none)
    (none_is c.in_ok-node-4.field-0 _ c.in_default-4.is c.in_ok-node-4.ensures.none)
