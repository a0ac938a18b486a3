use Rattle.std.proofs.Common.{arith}
use Rattle.small_areas.proofs.LastMaster.{only_master}
use Rattle.small_areas.proofs.masters.master_of.Goals as goal

pub returns-clause-some : goal.returns-clause-some
returns-clause-some c = only_master c.one_node.ensures c.args.bytes.now (λ i. omega (arith, c.type_inv.bytes i)) c.in-Ok.master c.in-Ok.ensures.found
