use Rattle.std.proofs.Common.{sym, ◌∙◌}
use Rattle.std.specs.Prelude.{slice_get}
use Rattle.index_tree.specs.Shape.{contents}
use Rattle.index_media.specs.KeyedRow.{bare}
use Rattle.table_nodes.specs.NodeView.{node_views, children_in}
use Rattle.node_cache.specs.LastBlockLaws.{block_found, block_missing, none_up_to}
use Rattle.node_table.proofs.LastBlocks.{below_ascend}
use Rattle.node_table.proofs.table.NodeTable.last_block_below.Goals as goal

pub returns-in-None-clause-found : goal.returns-in-None-clause-found
returns-in-None-clause-found g c =
    let nodes = c.args.self.now.nodes.items in
    let xs = contents (bare (children_in (slice_get (node_views nodes) c.args.number))) in
    none_up_to c.args.ino c.last_rank.result xs (below_ascend c.args.self.now.fanout nodes c.args.number c.args.self.now.sound) c.last_rank.ensures (sym c.in-None.is ∙ c.in_ok-last_below.ensures.found)

pub returns-then-is_block_of-clause-found : goal.returns-then-is_block_of-clause-found
returns-then-is_block_of-clause-found g c =
    let nodes = c.args.self.now.nodes.items in
    let xs = contents (bare (children_in (slice_get (node_views nodes) c.args.number))) in
    block_found c.args.ino c.last_rank.result xs c.in-Some.leaf (below_ascend c.args.self.now.fanout nodes c.args.number c.args.self.now.sound) c.last_rank.ensures (sym c.in-Some.is ∙ c.in_ok-last_below.ensures.found)
    (sym c.is_block_of.ensures ∙ c.if-is_block_of.true)

pub returns-else-is_block_of-clause-found : goal.returns-else-is_block_of-clause-found
returns-else-is_block_of-clause-found g c =
    let nodes = c.args.self.now.nodes.items in
    let xs = contents (bare (children_in (slice_get (node_views nodes) c.args.number))) in
    block_missing c.args.ino c.last_rank.result xs c.in-Some.leaf (below_ascend c.args.self.now.fanout nodes c.args.number c.args.self.now.sound) c.last_rank.ensures (sym c.in-Some.is ∙ c.in_ok-last_below.ensures.found)
    (sym c.is_block_of.ensures ∙ c.if-is_block_of.false)
