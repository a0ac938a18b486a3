use Rattle.std.proofs.Common.{None, Some, refl, ap, sym, ◌∙◌}
use Rattle.index_media.specs.Insertion.{first_key}
use Rattle.table_nodes.specs.NodeView.{node_views, row_of, tree_at}
use Rattle.node_table.specs.Staging.{only_root}
use Rattle.table_nodes.specs.declared.node.Root.{Root}
use Rattle.table_nodes.specs.declared.node.TableNode.{TableNode}
use Rattle.node_table.proofs.Rooted.{row_sound, root_sound, only_made, only_stands, only_there, raised_made, raised_stands, row_fits, pushed_there}
use Rattle.node_table.proofs.table.NodeTable.insert.Goals as goal

pub add-requires : goal.add-requires
add-requires g c = record {
  sound = row_sound c.args.self.now.fanout c.insert_row.new.self.fanout c.in_ok-level.level c.args.leaf (tree_at c.args.self.now.nodes.items c.args.root)
      (row_of (node_views c.insert_row.new.self.nodes.items) c.in_ok-links.links.items) c.args.self.now.least c.in_ok-links.ensures.fanout c.requires.key c.in_ok-level.ensures c.in_ok-links.ensures.made;
  clean = refl;
  dirty = refl;
}

pub returns-in-Some-clause-made : goal.returns-in-Some-clause-made
returns-in-Some-clause-made g c =
    only_made c.args.self.now.fanout c.insert_row.new.self.nodes.items c.args.leaf (tree_at c.args.self.now.nodes.items c.args.root) c.in_ok-links.links.items c.in-Some.top c.in_ok-links.ensures.made
    (ap only_root (sym c.as_slice.ensures.value) ∙ sym c.in-Some.ensures)

pub returns-in-Some-clause-root : goal.returns-in-Some-clause-root
returns-in-Some-clause-root g c =
    let f = c.args.self.now.fanout in
    let now = c.insert_row.new.self.nodes.items in
    let row = tree_at c.args.self.now.nodes.items c.args.root in
    let links = c.in_ok-links.links.items in
    let only = ap only_root (sym c.as_slice.ensures.value) ∙ sym c.in-Some.ensures in
    root_sound f c.in_ok-level.level c.args.leaf row now c.in-Some.top c.args.self.now.least c.requires.key c.in_ok-level.ensures
    (only_there f now links c.in-Some.top (row_fits f c.args.leaf row (row_of (node_views now) links) c.args.self.now.least c.in_ok-level.ensures.sound c.in_ok-links.ensures.made) only)
    (only_made f now c.args.leaf row links c.in-Some.top c.in_ok-links.ensures.made only)

pub returns-in_ok-number-in-None-clause-made : goal.returns-in_ok-number-in-None-clause-made
returns-in_ok-number-in-None-clause-made g c =
    let seen = node_views c.insert_row.new.self.nodes.items in
    let key = c.first_key-key.result in
    raised_made c.args.self.now.fanout seen c.args.leaf (tree_at c.args.self.now.nodes.items c.args.root) _ c.in_ok-links.links.items key c.in_ok-links.ensures.made
    (ap only_root (sym c.as_slice.ensures.value) ∙ sym c.in-None.ensures)
    (c.first_key-key.ensures seen ∙ ap (λ v. first_key c.args.leaf.key (row_of seen v)) c.as_slice-in-None.ensures.value)
    (c.in_ok-number-in-None.ensures.made key)

pub returns-in_ok-number-in-None-clause-root : goal.returns-in_ok-number-in-None-clause-root
returns-in_ok-number-in-None-clause-root g c =
    let f = c.args.self.now.fanout in
    let now = c.insert_row.new.self.nodes.items in
    let seen = node_views now in
    let row = tree_at c.args.self.now.nodes.items c.args.root in
    let key = c.first_key-key.result in
    let root : Root = record { key = key; number = c.in_ok-number-in-None.number } in
    let node : TableNode = record { level = c.in_ok-level.level; place = None; links = c.in_ok-links.links; beyond = None } in
    root_sound f c.in_ok-level.level c.args.leaf row c.add.new.self.nodes.items root c.args.self.now.least c.requires.key c.in_ok-level.ensures
    (pushed_there now c.add.new.self.nodes.items node c.in_ok-number-in-None.number c.in_ok-number-in-None.ensures.added c.in_ok-number-in-None.ensures.number)
    (raised_made f seen c.args.leaf row (tree_at c.add.new.self.nodes.items (Some root)) c.in_ok-links.links.items key c.in_ok-links.ensures.made
    (ap only_root (sym c.as_slice.ensures.value) ∙ sym c.in-None.ensures)
    (c.first_key-key.ensures seen ∙ ap (λ v. first_key c.args.leaf.key (row_of seen v)) c.as_slice-in-None.ensures.value)
    (c.in_ok-number-in-None.ensures.made key))

pub returns-in-Some-clause-stands : goal.returns-in-Some-clause-stands
returns-in-Some-clause-stands g c =
    only_stands (g.V.Volume.state c.insert_row.new.volume) c.insert_row.new.self.nodes.items c.in_ok-links.links.items c.in-Some.top (ap only_root (sym c.as_slice.ensures.value) ∙ sym c.in-Some.ensures)
    c.in_ok-links.ensures.there.stand

pub returns-in_ok-number-in-None-clause-stands : goal.returns-in_ok-number-in-None-clause-stands
returns-in_ok-number-in-None-clause-stands g c =
    let node : TableNode = record { level = c.in_ok-level.level; place = None; links = c.in_ok-links.links; beyond = None } in
    raised_stands (g.V.Volume.state c.insert_row.new.volume) c.insert_row.new.self.nodes.items c.add.new.self.nodes.items node c.in_ok-number-in-None.number c.first_key-key.result
    c.in_ok-number-in-None.ensures.added c.in_ok-number-in-None.ensures.number refl c.in_ok-links.ensures.there
