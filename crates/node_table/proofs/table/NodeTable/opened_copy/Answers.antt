use Rattle.std.proofs.Common.{None, subst}
use Rattle.index_media.specs.KeyedRow.{KeyedRow}
use Rattle.table_nodes.specs.Sound.{IsSoundView}
use Rattle.node_table.proofs.table.NodeTable.opened_copy.Goals as goal

pub returns-clause-sound : goal.returns-clause-sound
returns-clause-sound g c =
    let P : KeyedRow → Type 0 = λ r. IsSoundView c.args.self.now.fanout (record { level = c.in_ok-level.level; place = None; children = r }) in
    subst P c.in_ok-links.ensures.children c.in_ok-level.ensures
