use Rattle.std.proofs.Common.{◌≡◌, None, Bool, List, ◌∷◌, ◌-◌, ◌<◌, ap, sym, subst, arith, ◌∙◌}
use Rattle.std.specs.Prelude.{IfOk}
use Rattle.index_tree.specs.Order.{key_rank}
use Rattle.index_tree.specs.Removal.{holds}
use Rattle.index_tree.specs.Shape.{Shape, contents}
use Rattle.index_media.specs.KeyedKeys.{AreKeysBounded}
use Rattle.index_media.specs.KeyedRow.{KeyedRow, bare}
use Rattle.table_nodes.specs.NodeView.{node_views, row_of, link_key}
use Rattle.table_nodes.specs.declared.link.Link.{Link}
use Rattle.node_table.specs.UnloadedLaws.{back_stands, links_moved, links_stand, others_stand, walked_on}
use Rattle.node_table.proofs.HoldsLaws.{holds_passed, holds_lower, holds_inside, holds_outside, holds_nowhere}
use Rattle.node_table.proofs.Rows.{row_size, passed, link_bounds}
use Rattle.node_table.proofs.Walked.{rest_bounded, rest_small}
use Rattle.node_table.proofs.table.NodeTable.+holding.Goals as goal

pub holds_among-returns-then-begin_below-clause-found : goal.holds_among-returns-then-begin_below-clause-found
holds_among-returns-then-begin_below-clause-found g t c =
    let seen = node_views c.args.self.now.nodes.items in
    let at = c.args.at in
    let is = c.in-Some.ensures.cases.0 in
    let links = c.in-Some.link.now ∷ c.in-Some.rest.now in
    let P : List Link → Type 0 = λ v. AreKeysBounded 0 None (row_of seen v) in
    let p = passed seen (at - 1) 0 links 1 (subst P is c.requires.bounded) (λ some. c.begin_below.ensures.begins c.if-begin_below.true) in
    let above : 0 < at = c.begin_below.ensures.positive c.if-begin_below.true in
    let Q : Bool → Type 0 = λ v. IfOk c.holds_among.result (λ found. found ≡ v) in
    subst Q (sym (holds_passed seen (at - 1) c.args.sought.now links 1 (omega (arith, above, c.requires.rank)) p) ∙ ap (λ v. holds c.args.sought.now (contents (bare (row_of seen v)))) (sym is)) c.holds_among.ensures.found

pub holds_among-returns-then-here-clause-found : goal.holds_among-returns-then-here-clause-found
holds_among-returns-then-here-clause-found g t c =
    let seen = node_views c.args.self.now.nodes.items in
    sym (ap (λ v. holds c.args.sought.now (contents (bare (row_of seen v)))) c.in-Some.ensures.cases.0
    ∙ holds_inside seen c.args.sought.now c.in-Some.link.now c.in-Some.rest.now (sym c.in_ok-here-in-Some.ensures.found ∙ c.if-here.true))

pub holds_among-holds_among-requires-then-begin_within : goal.holds_among-holds_among-requires-then-begin_within
holds_among-holds_among-requires-then-begin_within g t c κs within =
    let a = g.V.Volume.state c.args.volume.now in
    let b = g.V.Volume.state c.holds_link.new.volume in
    let nodes = c.args.self.now.nodes.items in
    let seen = node_views nodes in
    let is = c.in-Some.ensures.cases.0 in
    let links = c.args.links.now in
    let rest = c.in-Some.rest.now in
    let link = c.in-Some.link.now in
    let reads = c.holds_link.ensures.reads in
    let small = rest_small seen links rest link is in (
      omega (arith, small, c.decreases),
      (within, (c.requires.rank, (rest_bounded seen links rest link is c.requires.bounded, (links_moved a b nodes rest reads.keeps reads.shape (others_stand a nodes links rest link is c.requires.stands), c.holds_link.ensures.kept)))),
    )

pub holds_among-returns-then-begin_within-clause-found : goal.holds_among-returns-then-begin_within-clause-found
holds_among-returns-then-begin_within-clause-found g t c =
    let seen = node_views c.args.self.now.nodes.items in
    let Q : Bool → Type 0 = λ v. IfOk c.holds_among-then-begin_within.result (λ found. found ≡ v) in
    subst Q (sym (holds_outside seen c.args.sought.now c.in-Some.link.now c.in-Some.rest.now (sym c.in_ok-here-in-Some.ensures.found ∙ c.if-here.false))
    ∙ ap (λ v. holds c.args.sought.now (contents (bare (row_of seen v)))) (sym c.in-Some.ensures.cases.0)) c.holds_among-then-begin_within.ensures.found

pub holds_among-returns-else-begin_within-clause-found : goal.holds_among-returns-else-begin_within-clause-found
holds_among-returns-else-begin_within-clause-found g t c =
    let seen = node_views c.args.self.now.nodes.items in
    let is = c.in-Some.ensures.cases.0 in
    let link = c.in-Some.link.now in
    let rest = c.in-Some.rest.now in
    let P : List Link → Type 0 = λ v. AreKeysBounded 0 None (row_of seen v) in
    let b = link_bounds seen 0 None link (row_of seen rest) (subst P is c.requires.bounded) in
    let none = holds_nowhere seen c.args.at (key_rank (link_key link)) c.args.sought.now rest c.requires.rank b.behind (sym c.begin_within.ensures ∙ c.if-begin_within.false) in
    sym (ap (λ v. holds c.args.sought.now (contents (bare (row_of seen v)))) is ∙ holds_outside seen c.args.sought.now link rest (sym c.in_ok-here-in-Some.ensures.found ∙ c.if-here.false) ∙ none)

pub holds_below-holds_below-requires-clause-row : goal.holds_below-holds_below-requires-clause-row
holds_below-holds_below-requires-clause-row g t c =
    let s = c.args.self.now in
    let w = walked_on (g.V.Volume.state c.args.volume.now) s.fanout s.nodes.items c.args.number c.in-Some.found s.sound c.in-Some.ensures.some c.requires.stands in
    (s.fanout, w.row, w.on)

pub holds_below-returns-in-Some-clause-found : goal.holds_below-returns-in-Some-clause-found
holds_below-returns-in-Some-clause-found g t c =
    let s = c.args.self.now in
    let w = walked_on (g.V.Volume.state c.args.volume.now) s.fanout s.nodes.items c.args.number c.in-Some.found s.sound c.in-Some.ensures.some c.requires.stands in
    let P : Shape → Type 0 = λ v. IfOk c.holds_below.result (λ found. found ≡ holds c.args.sought.now (contents v)) in
    subst P w.is (c.holds_below.ensures.found s.fanout w.row w.on)

pub holds_below-holds_among-requires : goal.holds_below-holds_among-requires
holds_below-holds_among-requires g t c κs within =
    let a = g.V.Volume.state c.args.volume.now in
    let nodes = c.args.self.now.nodes.items in
    let seen = node_views nodes in
    let found = c.in-Some-loaded_links in
    let links = found.links.now in
    let i = c.lower_links_passed.result in
    let p = passed seen (c.rank-at.result - 1) 0 links i found.ensures.bounded c.lower_links_passed.ensures.begins in
    let same = ap (λ v. row_size (row_of seen v)) c.split_at.ensures.back in
    let whole = ap row_size found.ensures.some in
    let P : List Link → Type 0 = λ v. AreKeysBounded 0 None (row_of seen v) in
    let stands = back_stands a nodes links _ i c.split_at.ensures.back (links_stand a nodes c.args.number links found.ensures.unplaced c.requires.stands) in
    (omega (arith, p.small, same, whole, c.decreases), (within, (c.rank-at.ensures, (subst P (sym c.split_at.ensures.back) p.bounded, (stands, c.requires.kept)))))

pub holds_below-returns-in-Some-loaded_links-clause-found : goal.holds_below-returns-in-Some-loaded_links-clause-found
holds_below-returns-in-Some-loaded_links-clause-found g t c =
    let seen = node_views c.args.self.now.nodes.items in
    let at = c.rank-at.result in
    let found = c.in-Some-loaded_links in
    let links = found.links.now in
    let i = c.lower_links_passed.result in
    let p = passed seen (at - 1) 0 links i found.ensures.bounded c.lower_links_passed.ensures.begins in
    let Q : Bool → Type 0 = λ v. IfOk c.holds_among.result (λ found. found ≡ v) in
    subst Q (ap (λ v. holds c.args.sought.now (contents (bare (row_of seen v)))) c.split_at.ensures.back
    ∙ sym (holds_lower seen at c.args.sought.now links i c.rank-at.ensures c.lower_links_passed.ensures.positive p)
    ∙ ap (λ (r : KeyedRow). holds c.args.sought.now (contents (bare r))) (sym found.ensures.some)) c.holds_among.ensures.found
