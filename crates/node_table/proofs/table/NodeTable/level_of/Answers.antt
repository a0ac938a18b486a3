use Rattle.std.proofs.Common.{None, ap, sym, subst}
use Rattle.index_media.specs.KeyedRow.{KeyedRow}
use Rattle.table_nodes.specs.NodeView.{children_in}
use Rattle.table_nodes.specs.Sound.{IsSoundView}
use Rattle.node_table.proofs.table.NodeTable.level_of.Goals as goal

pub returns-in-Some : goal.returns-in-Some
returns-in-Some c =
    let node = c.in-Some.node.now in
    let P : KeyedRow → Type 0 = λ r. IsSoundView c.args.self.now.fanout (record { level = node.level; place = None; children = r }) in
    subst P (sym (ap children_in c.in-Some.ensures.seen)) c.in-Some.ensures.sound
