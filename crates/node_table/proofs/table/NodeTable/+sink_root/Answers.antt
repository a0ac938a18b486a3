use Rattle.std.proofs.Common.{Some, List, ap, sym, ◌∙◌, subst, arith, length}
use Rattle.node_table.specs.Staging.{only_root}
use Rattle.node_table.specs.Unloaded.{DoesRootStand}
use Rattle.node_table.specs.UnloadedRoots.{root_moved}
use Rattle.table_nodes.specs.LinkLaws.{added_none}
use Rattle.table_nodes.specs.NodeView.{tree_at}
use Rattle.table_nodes.specs.declared.node.TableNode.{TableNode}
use Rattle.node_table.proofs.Inserted.{tree_kept}
use Rattle.node_table.proofs.Removed.{only_linked, root_stays_up, sunk_to}
use Rattle.node_table.proofs.Rooted.{only_stands}
use Rattle.node_table.proofs.table.NodeTable.+sink_root.Goals as goal

pub take_back-requires : goal.take_back-requires
take_back-requires g t c = let same = c.len-number.ensures in record { before = (c.args.self.now, c.in_ok-links.ensures.added, sym c.in_ok-links.ensures.fanout, omega (arith, same)) }

pub returns-in-None-clause-made : goal.returns-in-None-clause-made
returns-in-None-clause-made g t c =
    let old = c.args.self.now.nodes.items in
    let only = ap only_root (sym c.as_slice.ensures.value) ∙ sym c.in-None.ensures in
    let same = c.len-number.ensures in
    let back = c.take_back.ensures.nodes old c.in_ok-links.ensures.added (omega (arith, same)) in
    let now = c.opened_links.new.self.nodes.items in
    let kept = tree_kept old now (Some c.args.root) c.in_ok-links.ensures.added c.requires.there in
    ap (λ (v : List TableNode). tree_at v (Some c.args.root)) back ∙ sym kept
    ∙ root_stays_up old now c.args.root c.in_ok-links.links.items c.in_ok-links.ensures.added c.requires.there c.in_ok-links.ensures.children only

pub returns-in-None-clause-there : goal.returns-in-None-clause-there
returns-in-None-clause-there g t c =
    let old = c.args.self.now.nodes.items in
    let same = c.len-number.ensures in
    let back = ap length (c.take_back.ensures.nodes old c.in_ok-links.ensures.added (omega (arith, same))) in
    let own = c.requires.there in
    omega (arith, back, own)

pub returns-in-None-clause-added : goal.returns-in-None-clause-added
returns-in-None-clause-added g t c =
    let old = c.args.self.now.nodes.items in
    let same = c.len-number.ensures in
    added_none old c.take_back.new.self.nodes.items (c.take_back.ensures.nodes old c.in_ok-links.ensures.added (omega (arith, same)))

pub returns-in-None-clause-stands : goal.returns-in-None-clause-stands
returns-in-None-clause-stands g t c =
    let a = g.V.Volume.state c.args.volume.now in
    let b = g.V.Volume.state c.opened_links.new.volume in
    let old = c.args.self.now.nodes.items in
    let reads = c.in_ok-links.ensures.reads in
    let same = c.len-number.ensures in
    let D : List TableNode → Type 0 = λ v. DoesRootStand b v (Some c.args.root) in
    subst D (sym (c.take_back.ensures.nodes old c.in_ok-links.ensures.added (omega (arith, same)))) (root_moved a b old (Some c.args.root) reads.keeps reads.shape c.requires.stands)

pub sink_root-requires : goal.sink_root-requires
sink_root-requires g t c κs within =
    let old = c.args.self.now.nodes.items in
    let now = c.opened_links.new.self.nodes.items in
    let links = c.in_ok-links.links.items in
    let child = c.in-Some.child in
    let only = ap only_root (sym c.as_slice.ensures.value) ∙ sym c.in-Some.ensures in
    let to = sunk_to old now c.args.root child links c.in_ok-links.ensures.children only in
    let small = to.small in
    let stands = only_stands (g.V.Volume.state c.opened_links.new.volume) now links child only c.in_ok-links.ensures.links.stand in
    (omega (arith, small, c.decreases), (within, (only_linked (length now) links child c.in_ok-links.ensures.links.there only, (stands, c.in_ok-links.ensures.kept))))
