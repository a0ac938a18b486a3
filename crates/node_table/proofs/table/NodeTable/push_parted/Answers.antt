use Rattle.std.proofs.Common.{None, List, ◌≡◌, ap, sym, subst, ◌∙◌, arith}
use Rattle.std.specs.Prelude.{OnOk}
use Rattle.index_tree.specs.Shape.{left_half}
use Rattle.index_media.specs.Insertion.{first_key}
use Rattle.index_media.specs.KeyedRow.{KeyedRow, node_in}
use Rattle.table_nodes.specs.NodeView.{node_views, row_of}
use Rattle.table_nodes.specs.Sound.{IsSoundView}
use Rattle.table_nodes.specs.Links.{row_before}
use Rattle.table_nodes.specs.declared.link.Link.{Link}
use Rattle.node_table.specs.StandingLinks.{standing_added, standing_dropped, standing_taken}
use Rattle.node_table.specs.Unloaded.{AreStandingLinks}
use Rattle.node_table.proofs.Inserted.{back_sound, back_row_kept, parted_two}
use Rattle.node_table.proofs.Staged.{whole_sound, whole_stays, halved, front_row, back_row, links_counted}
use Rattle.node_table.proofs.table.NodeTable.push_parted.Goals as goal

pub push_node-requires-clause-sound : goal.push_node-requires-clause-sound
push_node-requires-clause-sound g c =
    let seen = node_views c.args.self.now.nodes.items in
    let f = c.args.self.now.fanout in
    let row = row_of seen c.args.links.now in
    let number = links_counted seen c.args.links.now in
    let P : List Link → Type 0 = λ v. IsSoundView f (record { level = c.args.level; place = None; children = row_of seen v }) in
    subst P (sym c.in_ok-whole.ensures) (whole_sound f c.args.level row c.requires.grown (omega (arith, number, c.if-links-self.true)))

pub returns-then-links-self-clause-made : goal.returns-then-links-self-clause-made
returns-then-links-self-clause-made g c = λ rest.
    let seen = node_views c.args.self.now.nodes.items in
    let f = c.args.self.now.fanout in
    let row = row_of seen c.args.links.now in
    let number = links_counted seen c.args.links.now in
    let Q : KeyedRow → Type 0 = λ r. OnOk c.push_node.result (row_before (node_views c.push_node.new.self.nodes.items) c.push_node.new.made.items rest ≡ row_before seen c.args.made.now.items r) in
    subst Q (ap (λ v. node_in c.args.key None (row_of seen v) rest) c.in_ok-whole.ensures ∙ sym (whole_stays f c.args.key row rest (omega (arith, number, c.if-links-self.true))))
    (c.push_node.ensures.made rest)

pub push_node-requires-2-clause-sound : goal.push_node-requires-2-clause-sound
push_node-requires-2-clause-sound g c =
    let seen = node_views c.args.self.now.nodes.items in
    let f = c.args.self.now.fanout in
    let row = row_of seen c.args.links.now in
    let number = links_counted seen c.args.links.now in
    let h = halved f c.args.level c.args.key row c.args.self.now.least c.requires.grown (omega (arith, number, c.if-links-self.false)) in
    let P : KeyedRow → Type 0 = λ r. IsSoundView f (record { level = c.args.level; place = None; children = r }) in
    subst P (sym (ap (λ v. row_of seen v) (c.in_ok-front.ensures ∙ c.split_at.ensures.front) ∙ front_row seen (left_half f) c.args.links.now)) h.front

pub push_node-requires-3-clause-sound : goal.push_node-requires-3-clause-sound
push_node-requires-3-clause-sound g c =
    let old = c.args.self.now.nodes.items in
    let seen = node_views old in
    let f = c.args.self.now.fanout in
    let row = row_of seen c.args.links.now in
    let number = links_counted seen c.args.links.now in
    let h = halved f c.args.level c.args.key row c.args.self.now.least c.requires.grown (omega (arith, number, c.if-links-self.false)) in
    let back = ap (λ v. row_of seen v) (c.in_ok-back.ensures ∙ c.split_at.ensures.back) ∙ back_row seen (left_half f) c.args.links.now in
    back_sound f c.push_node-2.new.self.fanout c.args.level old c.push_node-2.new.self.nodes.items c.in_ok-back.back.items _ c.in_ok-push_node.ensures.fanout c.in_ok-push_node.ensures.added back h.back

pub returns-clause-made : goal.returns-clause-made
returns-clause-made g c = λ rest.
    let old = c.args.self.now.nodes.items in
    let mid = c.push_node-2.new.self.nodes.items in
    let seen = node_views old in
    let f = c.args.self.now.fanout in
    let key = c.args.key in
    let row = row_of seen c.args.links.now in
    let number = links_counted seen c.args.links.now in
    let h = halved f c.args.level key row c.args.self.now.least c.requires.grown (omega (arith, number, c.if-links-self.false)) in
    let front = ap (λ v. row_of seen v) (c.in_ok-front.ensures ∙ c.split_at.ensures.front) ∙ front_row seen (left_half f) c.args.links.now in
    let right = ap (λ v. row_of seen v) c.split_at.ensures.back ∙ back_row seen (left_half f) c.args.links.now in
    let back = ap (λ v. row_of seen v) c.in_ok-back.ensures ∙ right in
    let kept = back_row_kept f c.args.level old mid c.in_ok-back.back.items _ c.in_ok-push_node.ensures.added back h.back in
    let first = c.first_key.ensures seen ∙ ap (λ (r : KeyedRow). first_key key r) right in
    let Q : KeyedRow → Type 0 = λ r. OnOk c.push_node-3.result (row_before (node_views c.push_node-3.new.self.nodes.items) c.push_node-3.new.made.items rest ≡ r) in
    subst Q (c.in_ok-push_node.ensures.made (node_in c.first_key.result None (row_of (node_views mid) c.in_ok-back.back.items) rest)
    ∙ parted_two seen c.args.made.now.items f c.args.level key row h (row_of seen c.in_ok-front.front.items) (row_of (node_views mid) c.in_ok-back.back.items) c.first_key.result rest front kept first)
    (c.push_node-3.ensures.made rest)

pub returns-then-links-self-clause-stands : goal.returns-then-links-self-clause-stands
returns-then-links-self-clause-stands g c = λ own below.
    let P : List Link → Type 0 = λ v. AreStandingLinks (g.V.Volume.state c.args.volume.now) c.args.self.now.nodes.items v in
    c.push_node.ensures.stands own (subst P (sym c.in_ok-whole.ensures) below)

pub returns-clause-stands : goal.returns-clause-stands
returns-clause-stands g c = λ own below.
    let s = g.V.Volume.state c.args.volume.now in
    let old = c.args.self.now.nodes.items in
    let mid = c.push_node-2.new.self.nodes.items in
    let links = c.args.links.now in
    let half = left_half c.args.self.now.fanout in
    let P : List Link → Type 0 = λ v. AreStandingLinks s old v in
    let front = subst P (sym (c.in_ok-front.ensures ∙ c.split_at.ensures.front)) (standing_taken s old half links below) in
    let back = subst P (sym (c.in_ok-back.ensures ∙ c.split_at.ensures.back)) (standing_dropped s old half links below) in
    c.push_node-3.ensures.stands (c.in_ok-push_node.ensures.stands own front) (standing_added s old mid c.in_ok-back.back.items c.in_ok-push_node.ensures.added back)
