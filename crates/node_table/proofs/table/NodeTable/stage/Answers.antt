use Rattle.std.proofs.Common.{arith, sym}
use Rattle.node_table.proofs.table.NodeTable.stage.Goals as goal

pub take_back-requires : goal.take_back-requires
take_back-requires g c = let same = c.len-number.ensures in record { before = (c.args.self.now, c.stage_all.ensures.added, sym c.stage_all.ensures.fanout, omega (arith, same)) }

pub returns-in-Err-clause-err : goal.returns-in-Err-clause-err
returns-in-Err-clause-err g c =
    let same = c.len-number.ensures in
    c.take_back.ensures.nodes c.args.self.now.nodes.items c.stage_all.ensures.added (omega (arith, same))
