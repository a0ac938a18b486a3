use Rattle.std.proofs.Common.{arith}
use Rattle.group_nodes.proofs.Reading.{no_leaf}
use Rattle.group_nodes.proofs.read.read_none.Goals as goal

pub returns : goal.returns
returns c = no_leaf c.args.bytes.now (λ i. omega (arith, c.type_inv.bytes i)) c.requires
