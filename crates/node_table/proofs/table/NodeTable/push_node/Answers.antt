use Rattle.std.proofs.Common.{None, ◌∙◌, ap, refl, subst, sym, List, length}
use Rattle.table_nodes.specs.NodeView.{node_views}
use Rattle.table_nodes.specs.Links.{row_before, AreLinksIn}
use Rattle.table_nodes.specs.declared.link.Link.{Link}
use Rattle.table_nodes.specs.declared.node.TableNode.{TableNode}
use Rattle.table_nodes.specs.LinkLaws.{node_pushed, links_in_pushed}
use Rattle.node_table.specs.StandingLinks.{standing_pushed}
use Rattle.node_table.specs.Unloaded.{AreStandingLinks}
use Rattle.node_table.proofs.table.NodeTable.push_node.Goals as goal

pub returns-clause-made : goal.returns-clause-made
returns-clause-made g c = λ rest.
    let old = c.args.self.now.nodes.items in
    let new = c.add.new.self.nodes.items in
    let node : TableNode = record { level = c.args.level; place = None; links = c.args.links; beyond = None } in
    ap (λ v. row_before (node_views new) v rest) c.in_ok-push.ensures.items
    ∙ node_pushed old new node c.in_ok-number.number c.args.key c.args.made.now.items rest c.in_ok-number.ensures.added c.in_ok-number.ensures.number c.requires.there

pub returns-clause-there : goal.returns-clause-there
returns-clause-there g c =
    let old = c.args.self.now.nodes.items in
    let new = c.add.new.self.nodes.items in
    let node : TableNode = record { level = c.args.level; place = None; links = c.args.links; beyond = None } in
    let P : List Link → Type 0 = λ v. AreLinksIn (length new) v in
    subst P (sym c.in_ok-push.ensures.items)
    (links_in_pushed old new node c.in_ok-number.number c.args.key c.args.made.now.items c.in_ok-number.ensures.added c.in_ok-number.ensures.number c.requires.there)

pub returns-clause-stands : goal.returns-clause-stands
returns-clause-stands g c = λ own below.
    let s = g.V.Volume.state c.args.volume.now in
    let old = c.args.self.now.nodes.items in
    let new = c.add.new.self.nodes.items in
    let node : TableNode = record { level = c.args.level; place = None; links = c.args.links; beyond = None } in
    let P : List Link → Type 0 = λ v. AreStandingLinks s new v in
    subst P (sym c.in_ok-push.ensures.items)
    (standing_pushed s old new node c.in_ok-number.number c.args.key c.args.made.now.items c.in_ok-number.ensures.added c.in_ok-number.ensures.number refl below own)
