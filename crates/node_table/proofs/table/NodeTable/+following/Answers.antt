use Rattle.std.proofs.Common.{◌≡◌, None, List, ◌∷◌, ap, sym, subst, arith, ◌∙◌}
use Rattle.std.specs.Prelude.{IfOk, Option}
use Rattle.index_tree.specs.Order.{first_after}
use Rattle.index_tree.specs.Shape.{Shape, contents}
use Rattle.index_tree.specs.declared.leaf.Leaf.{Leaf}
use Rattle.index_media.specs.KeyedKeys.{AreKeysBounded}
use Rattle.index_media.specs.KeyedRow.{KeyedRow, bare}
use Rattle.table_nodes.specs.NodeView.{node_views, row_of}
use Rattle.table_nodes.specs.declared.link.Link.{Link}
use Rattle.node_table.specs.UnloadedLaws.{back_stands, links_moved, links_stand, others_stand, walked_on}
use Rattle.node_table.proofs.Following.{after_passed, after_inside, after_outside}
use Rattle.node_table.proofs.Rows.{row_size, passed}
use Rattle.node_table.proofs.Walked.{rest_bounded, rest_small}
use Rattle.node_table.proofs.table.NodeTable.+following.Goals as goal

pub after_among-returns-then-begin_within-clause-found : goal.after_among-returns-then-begin_within-clause-found
after_among-returns-then-begin_within-clause-found g t c =
    let seen = node_views c.args.self.now.nodes.items in
    let is = c.in-Some.ensures.cases.0 in
    let P : List Link → Type 0 = λ v. AreKeysBounded 0 None (row_of seen v) in
    let p = passed seen c.args.at 0 (c.in-Some.link.now ∷ c.in-Some.rest.now) 1 (subst P is c.requires.bounded) (λ some. sym c.begin_within.ensures ∙ c.if-begin_within.true) in
    let Q : Option Leaf → Type 0 = λ v. IfOk c.after_among.result (λ found. found ≡ v) in
    subst Q (sym (after_passed seen c.args.at (c.in-Some.link.now ∷ c.in-Some.rest.now) 1 p) ∙ ap (λ v. first_after c.args.at (contents (bare (row_of seen v)))) (sym is)) c.after_among.ensures.found

pub after_among-after_among-requires-in-None-2 : goal.after_among-after_among-requires-in-None-2
after_among-after_among-requires-in-None-2 g t c κs within =
    let a = g.V.Volume.state c.args.volume.now in
    let b = g.V.Volume.state c.after_link.new.volume in
    let nodes = c.args.self.now.nodes.items in
    let seen = node_views nodes in
    let is = c.in-Some.ensures.cases.0 in
    let links = c.args.links.now in
    let rest = c.in-Some.rest.now in
    let link = c.in-Some.link.now in
    let reads = c.after_link.ensures.reads in
    let small = rest_small seen links rest link is in (
      omega (arith, small, c.decreases),
      (within, (rest_bounded seen links rest link is c.requires.bounded, (links_moved a b nodes rest reads.keeps reads.shape (others_stand a nodes links rest link is c.requires.stands), c.after_link.ensures.kept))),
    )

pub after_among-returns-in-Some-2-clause-found : goal.after_among-returns-in-Some-2-clause-found
after_among-returns-in-Some-2-clause-found g t c =
    let seen = node_views c.args.self.now.nodes.items in
    sym (ap (λ v. first_after c.args.at (contents (bare (row_of seen v)))) c.in-Some.ensures.cases.0
    ∙ after_inside seen c.args.at c.in-Some.link.now c.in-Some.rest.now c.in-Some-2.leaf (sym c.in_ok-leaf-in-Some.ensures.found ∙ c.in-Some-2.is))

pub after_among-returns-in-None-2-clause-found : goal.after_among-returns-in-None-2-clause-found
after_among-returns-in-None-2-clause-found g t c =
    let seen = node_views c.args.self.now.nodes.items in
    let Q : Option Leaf → Type 0 = λ v. IfOk c.after_among-in-None-2.result (λ found. found ≡ v) in
    subst Q (sym (after_outside seen c.args.at c.in-Some.link.now c.in-Some.rest.now (sym c.in_ok-leaf-in-Some.ensures.found ∙ c.in-None-2.is))
    ∙ ap (λ v. first_after c.args.at (contents (bare (row_of seen v)))) (sym c.in-Some.ensures.cases.0)) c.after_among-in-None-2.ensures.found

pub after_below-after_below-requires-clause-row : goal.after_below-after_below-requires-clause-row
after_below-after_below-requires-clause-row g t c =
    let s = c.args.self.now in
    let w = walked_on (g.V.Volume.state c.args.volume.now) s.fanout s.nodes.items c.args.number c.in-Some.found s.sound c.in-Some.ensures.some c.requires.stands in
    (s.fanout, w.row, w.on)

pub after_below-returns-in-Some-clause-found : goal.after_below-returns-in-Some-clause-found
after_below-returns-in-Some-clause-found g t c =
    let s = c.args.self.now in
    let w = walked_on (g.V.Volume.state c.args.volume.now) s.fanout s.nodes.items c.args.number c.in-Some.found s.sound c.in-Some.ensures.some c.requires.stands in
    let P : Shape → Type 0 = λ v. IfOk c.after_below.result (λ found. found ≡ first_after c.args.at (contents v)) in
    subst P w.is (c.after_below.ensures.found s.fanout w.row w.on)

pub after_below-after_among-requires : goal.after_below-after_among-requires
after_below-after_among-requires g t c κs within =
    let a = g.V.Volume.state c.args.volume.now in
    let nodes = c.args.self.now.nodes.items in
    let seen = node_views nodes in
    let found = c.in-Some-loaded_links in
    let links = found.links.now in
    let i = c.links_passed.result in
    let p = passed seen c.args.at 0 links i found.ensures.bounded c.links_passed.ensures.begins in
    let same = ap (λ v. row_size (row_of seen v)) c.split_at.ensures.back in
    let whole = ap row_size found.ensures.some in
    let P : List Link → Type 0 = λ v. AreKeysBounded 0 None (row_of seen v) in
    let stands = back_stands a nodes links _ i c.split_at.ensures.back (links_stand a nodes c.args.number links found.ensures.unplaced c.requires.stands) in
    (omega (arith, p.small, same, whole, c.decreases), (within, (subst P (sym c.split_at.ensures.back) p.bounded, (stands, c.requires.kept))))

pub after_below-returns-in-Some-loaded_links-clause-found : goal.after_below-returns-in-Some-loaded_links-clause-found
after_below-returns-in-Some-loaded_links-clause-found g t c =
    let seen = node_views c.args.self.now.nodes.items in
    let found = c.in-Some-loaded_links in
    let links = found.links.now in
    let i = c.links_passed.result in
    let p = passed seen c.args.at 0 links i found.ensures.bounded c.links_passed.ensures.begins in
    let same = ap (λ v. first_after c.args.at (contents (bare (row_of seen v)))) c.split_at.ensures.back
    ∙ sym (after_passed seen c.args.at links i p) ∙ ap (λ (r : KeyedRow). first_after c.args.at (contents (bare r))) (sym found.ensures.some) in
    let Q : Option Leaf → Type 0 = λ v. IfOk c.after_among.result (λ found. found ≡ v) in
    subst Q same c.after_among.ensures.found
