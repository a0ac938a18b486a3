use Rattle.std.proofs.Common.{ap, sym, ◌∙◌}
use Rattle.index_media.specs.Insertion.{inserted_by_keys}
use Rattle.index_media.specs.KeyedRow.{no_more}
use Rattle.table_nodes.specs.NodeView.{tree_at}
use Rattle.node_table.proofs.Inserted.{top_made}
use Rattle.node_table.proofs.table.NodeTable.insert_row.Goals as goal

pub returns-in_ok-insert_below-in-Some-clause-made : goal.returns-in_ok-insert_below-in-Some-clause-made
returns-in_ok-insert_below-in-Some-clause-made g c =
    let old = c.args.self.now.nodes.items in
    let now = c.insert_below.new.self.nodes.items in
    let f = c.args.self.now.fanout in
    top_made f old now c.args.leaf c.in-Some.top c.new-made.result.items c.insert_below.new.made.items c.new-made.ensures.items (c.in_ok-insert_below-in-Some.ensures.made no_more)
    ∙ ap (λ r. inserted_by_keys f c.args.leaf (tree_at old r)) (sym c.in-Some.is)
