use Rattle.std.proofs.Common.{arith}
use Rattle.media_leaf.specs.LeafNode.{entry}
use Rattle.group_nodes.proofs.Reading.{Are, some_is, read_of, no_entry}
use Rattle.group_nodes.proofs.read.read_entry.Goals as goal

pub returns-in_default : goal.returns-in_default
returns-in_default c = no_entry c.args.bytes.now c.in_ok-node.field-0 (λ i. omega (arith, c.type_inv.bytes i)) c.requires c.in_default.is c.in_ok-node.ensures.none

pub returns : goal.returns
returns c =
    let is = some_is c.in_ok-node.field-0 c.in-Some.node (λ node. Are c.args.bytes.now (entry node)) c.in-Some.is c.in_ok-node.ensures.found in
    read_of c.one_node.ensures c.args.bytes.now c.change_of_entry.result (entry c.in-Some.node) (λ i. omega (arith, c.type_inv.bytes i)) is c.change_of_entry.ensures
