use Rattle.std.proofs.Common.{arith, sym}
use Rattle.table_nodes.specs.LinkLaws.{added_none}
use Rattle.node_table.proofs.table.NodeTable.remove_range.Goals as goal

pub take_back-requires : goal.take_back-requires
take_back-requires g c = let same = c.len-number.ensures in record { before = (c.args.self.now, c.prune_root.ensures.added, sym c.prune_root.ensures.fanout, omega (arith, same)) }

pub returns-in-Err-clause-err : goal.returns-in-Err-clause-err
returns-in-Err-clause-err g c =
    let same = c.len-number.ensures in
    c.take_back.ensures.nodes c.args.self.now.nodes.items c.prune_root.ensures.added (omega (arith, same))

pub returns-in-Err-clause-added : goal.returns-in-Err-clause-added
returns-in-Err-clause-added g c =
    let same = c.len-number.ensures in
    added_none c.args.self.now.nodes.items c.take_back.new.self.nodes.items (c.take_back.ensures.nodes c.args.self.now.nodes.items c.prune_root.ensures.added (omega (arith, same)))
