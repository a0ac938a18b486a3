use Rattle.std.proofs.Common.{◌≡◌, None, List, drop, take, ap, sym, subst, arith, ◌∙◌}
use Rattle.std.specs.Prelude.{IfOk, Option}
use Rattle.index_tree.specs.Shape.{Shape, contents}
use Rattle.index_tree.specs.declared.leaf.Leaf.{Leaf}
use Rattle.index_media.specs.KeyedKeys.{AreKeysBounded}
use Rattle.index_media.specs.KeyedRow.{KeyedRow, bare}
use Rattle.table_nodes.specs.NodeView.{node_views, row_of}
use Rattle.table_nodes.specs.declared.link.Link.{Link}
use Rattle.node_table.specs.UnloadedLaws.{back_stands, first_stands, front_stands, link_moved, links_moved, links_stand, walked_on}
use Rattle.node_table.proofs.Ending.{last_up_to, last_second, last_first, last_outside, last_inside, none_behind, leaves_split, front_small, front_bounded}
use Rattle.node_table.proofs.Rows.{linked_size, row_size, passed}
use Rattle.node_table.proofs.table.NodeTable.+ending.Goals as goal

pub last_among-returns-then-not-begin_within-clause-found : goal.last_among-returns-then-not-begin_within-clause-found
last_among-returns-then-not-begin_within-clause-found g t c =
    let seen = node_views c.args.self.now.nodes.items in
    let is = c.in-Some.ensures.cases.0 in
    let link = c.in-Some.link.now in
    let rest = c.in-Some.rest.now in
    let none = none_behind seen c.args.at link rest c.args.links.now is c.requires.bounded (sym c.begin_within.ensures ∙ c.if-not-begin_within.true) in
    let Q : Option Leaf → Type 0 = λ v. IfOk c.last_link.result (λ found. found ≡ v) in
    subst Q (last_inside seen c.args.at link rest c.args.links.now is none) c.last_link.ensures.found

pub last_among-last_link-requires-in-None-2 : goal.last_among-last_link-requires-in-None-2
last_among-last_link-requires-in-None-2 g t c κs within =
    let a = g.V.Volume.state c.args.volume.now in
    let b = g.V.Volume.state c.last_among.new.volume in
    let nodes = c.args.self.now.nodes.items in
    let seen = node_views nodes in
    let is = c.in-Some.ensures.cases.0 in
    let links = c.args.links.now in
    let rest = c.in-Some.rest.now in
    let link = c.in-Some.link.now in
    let reads = c.last_among.ensures.reads in
    let whole = ap (λ (v : List Link). row_size (row_of seen v)) is in
    let size = linked_size seen link (row_of seen rest) in
    (omega (arith, whole, size, c.decreases), (within, (link_moved a b nodes link reads.keeps reads.shape (first_stands a nodes links rest link is c.requires.stands), c.last_among.ensures.kept)))

pub last_among-returns-in-Some-2-clause-found : goal.last_among-returns-in-Some-2-clause-found
last_among-returns-in-Some-2-clause-found g t c =
    let seen = node_views c.args.self.now.nodes.items in
    last_outside seen c.args.at c.in-Some.link.now c.in-Some.rest.now c.args.links.now c.in-Some-2.leaf c.in-Some.ensures.cases.0 (sym c.in-Some-2.is ∙ c.in_ok-leaf-in-Some.ensures.found)

pub last_among-returns-in-None-2-clause-found : goal.last_among-returns-in-None-2-clause-found
last_among-returns-in-None-2-clause-found g t c =
    let seen = node_views c.args.self.now.nodes.items in
    let Q : Option Leaf → Type 0 = λ v. IfOk c.last_link-in-None-2.result (λ found. found ≡ v) in
    subst Q (last_inside seen c.args.at c.in-Some.link.now c.in-Some.rest.now c.args.links.now c.in-Some.ensures.cases.0 (sym c.in-None-2.is ∙ c.in_ok-leaf-in-Some.ensures.found)) c.last_link-in-None-2.ensures.found

pub last_below-last_below-requires-clause-row : goal.last_below-last_below-requires-clause-row
last_below-last_below-requires-clause-row g t c =
    let s = c.args.self.now in
    let w = walked_on (g.V.Volume.state c.args.volume.now) s.fanout s.nodes.items c.args.number c.in-Some.found s.sound c.in-Some.ensures.some c.requires.stands in
    (s.fanout, w.row, w.on)

pub last_below-returns-in-Some-clause-found : goal.last_below-returns-in-Some-clause-found
last_below-returns-in-Some-clause-found g t c =
    let s = c.args.self.now in
    let w = walked_on (g.V.Volume.state c.args.volume.now) s.fanout s.nodes.items c.args.number c.in-Some.found s.sound c.in-Some.ensures.some c.requires.stands in
    let P : Shape → Type 0 = λ v. IfOk c.last_below.result (λ found. found ≡ last_up_to c.args.at (contents v)) in
    subst P w.is (c.last_below.ensures.found s.fanout w.row w.on)

pub last_below-last_among-requires : goal.last_below-last_among-requires
last_below-last_among-requires g t c κs within =
    let a = g.V.Volume.state c.args.volume.now in
    let nodes = c.args.self.now.nodes.items in
    let seen = node_views nodes in
    let found = c.in-Some-loaded_links in
    let links = found.links.now in
    let i = c.links_passed.result in
    let p = passed seen c.args.at 0 links i found.ensures.bounded c.links_passed.ensures.begins in
    let same = ap (λ v. row_size (row_of seen v)) c.split_at.ensures.back in
    let whole = ap row_size found.ensures.some in
    let P : List Link → Type 0 = λ v. AreKeysBounded 0 None (row_of seen v) in
    let stands = back_stands a nodes links _ i c.split_at.ensures.back (links_stand a nodes c.args.number links found.ensures.unplaced c.requires.stands) in
    (omega (arith, p.small, same, whole, c.decreases), (within, (subst P (sym c.split_at.ensures.back) p.bounded, (stands, c.requires.kept))))

pub last_below-last_among-requires-in-None-2 : goal.last_below-last_among-requires-in-None-2
last_below-last_among-requires-in-None-2 g t c κs within =
    let a = g.V.Volume.state c.args.volume.now in
    let b = g.V.Volume.state c.last_among.new.volume in
    let nodes = c.args.self.now.nodes.items in
    let seen = node_views nodes in
    let found = c.in-Some-loaded_links in
    let links = found.links.now in
    let i = c.links_passed.result in
    let small = front_small seen i links in
    let same = ap (λ v. row_size (row_of seen v)) c.split_at.ensures.front in
    let whole = ap row_size found.ensures.some in
    let P : List Link → Type 0 = λ v. AreKeysBounded 0 None (row_of seen v) in
    let reads = c.last_among.ensures.reads in
    let stands = links_moved a b nodes c.split_at.result.0.now reads.keeps reads.shape (front_stands a nodes links c.split_at.result.0.now i c.split_at.ensures.front (links_stand a nodes c.args.number links found.ensures.unplaced c.requires.stands)) in
    (omega (arith, small, same, whole, c.decreases), (within, (subst P (sym c.split_at.ensures.front) (front_bounded seen 0 i links found.ensures.bounded), (stands, c.last_among.ensures.kept))))

pub last_below-returns-in-Some-2-clause-found : goal.last_below-returns-in-Some-2-clause-found
last_below-returns-in-Some-2-clause-found g t c =
    let seen = node_views c.args.self.now.nodes.items in
    let at = c.args.at in
    let found = c.in-Some-loaded_links in
    let links = found.links.now in
    let i = c.links_passed.result in
    let front = contents (bare (row_of seen (take i links))) in
    let back = contents (bare (row_of seen (drop i links))) in
    let there = sym c.in-Some-2.is ∙ c.in_ok-leaf-in-Some-loaded_links.ensures.found ∙ ap (λ v. last_up_to at (contents (bare (row_of seen v)))) c.split_at.ensures.back in
    sym (ap (λ (r : KeyedRow). last_up_to at (contents (bare r))) found.ensures.some ∙ ap (last_up_to at) (leaves_split seen i links)
    ∙ last_second at front back c.in-Some-2.leaf (sym there))

pub last_below-returns-in-None-2-clause-found : goal.last_below-returns-in-None-2-clause-found
last_below-returns-in-None-2-clause-found g t c =
    let seen = node_views c.args.self.now.nodes.items in
    let at = c.args.at in
    let found = c.in-Some-loaded_links in
    let links = found.links.now in
    let i = c.links_passed.result in
    let front = contents (bare (row_of seen (take i links))) in
    let back = contents (bare (row_of seen (drop i links))) in
    let none = sym c.in-None-2.is ∙ c.in_ok-leaf-in-Some-loaded_links.ensures.found ∙ ap (λ v. last_up_to at (contents (bare (row_of seen v)))) c.split_at.ensures.back in
    let Q : Option Leaf → Type 0 = λ v. IfOk c.last_among-in-None-2.result (λ found. found ≡ v) in
    subst Q (ap (λ v. last_up_to at (contents (bare (row_of seen v)))) c.split_at.ensures.front
    ∙ sym (ap (λ (r : KeyedRow). last_up_to at (contents (bare r))) found.ensures.some ∙ ap (last_up_to at) (leaves_split seen i links) ∙ last_first at front back (sym none))) c.last_among-in-None-2.ensures.found
