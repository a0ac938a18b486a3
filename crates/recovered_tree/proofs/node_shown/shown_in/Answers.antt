use Rattle.std.proofs.Common.{arith}
use Rattle.recovered_tree.proofs.NodeBytes.{inode_shown_in, other_shown_in}
use Rattle.recovered_tree.proofs.node_shown.shown_in.Goals as goal

pub returns-in-Some : goal.returns-in-Some
returns-in-Some c = inode_shown_in c.one_node.ensures c.args.bytes.now c.in_ok-node.field-0 c.in-Some.node c.inode_shown.result (λ i. omega (arith, c.type_inv.bytes i)) c.in-Some.is c.in_ok-node.ensures.found c.inode_shown.ensures

pub returns : goal.returns
returns c = other_shown_in c.args.bytes.now c.in_ok-node.field-0 c.in_default.is c.in_ok-node.ensures.none c.read_change.result c.read_change.ensures
