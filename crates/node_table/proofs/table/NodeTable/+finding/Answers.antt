use Rattle.std.specs.Prelude.{IfOk, slice_get}
use Rattle.std.proofs.Common.{None, List, ◌∷◌, ◌+◌, ◌-◌, ◌<◌, length, ap, sym, subst, arith, ◌∙◌}
use Rattle.index_tree.specs.Order.{key_rank, of_rank}
use Rattle.index_tree.specs.declared.leaf.Leaf.{Leaf}
use Rattle.index_tree.specs.Shape.{Shape, contents}
use Rattle.index_media.specs.KeyedKeys.{AreKeysBounded}
use Rattle.index_media.specs.KeyedRow.{KeyedRow, bare}
use Rattle.node_cache.specs.Branches.{IsNth}
use Rattle.node_cache.specs.declared.nth.Nth.{Nth}
use Rattle.node_cache.specs.declared.nth.Nth.TheVariants.{Fewer}
use Rattle.table_nodes.specs.NodeView.{node_views, row_of, link_key}
use Rattle.table_nodes.specs.declared.link.Link.{Link}
use Rattle.node_table.specs.UnloadedLaws.{back_stands, links_moved, links_stand, others_stand, walked_on}
use Rattle.node_table.specs.Walk.{inside}
use Rattle.node_table.proofs.Finding.{of_rank_passed, of_rank_lower, nth_inside, nth_outside, none_outside}
use Rattle.node_table.proofs.Rows.{row_size, passed, link_bounds}
use Rattle.node_table.proofs.Walked.{on_ok, rest_bounded, rest_small}
use Rattle.node_table.proofs.table.NodeTable.+finding.Goals as goal

pub find_among-returns-then-begin_below-clause-found : goal.find_among-returns-then-begin_below-clause-found
find_among-returns-then-begin_below-clause-found g t c =
    let seen = node_views c.args.self.now.nodes.items in
    let at = c.args.at in
    let is = c.in-Some.ensures.cases.0 in
    let links = c.in-Some.link.now ∷ c.in-Some.rest.now in
    let P : List Link → Type 0 = λ v. AreKeysBounded 0 None (row_of seen v) in
    let p = passed seen (at - 1) 0 links 1 (subst P is c.requires.bounded) (λ some. c.begin_below.ensures.begins c.if-begin_below.true) in
    let above : 0 < at = c.begin_below.ensures.positive c.if-begin_below.true in
    let same = ap (λ v. of_rank at (contents (bare (row_of seen v)))) is ∙ of_rank_passed seen (at - 1) at links 1 (omega (arith, above)) p in
    let Q : List Leaf → Type 0 = λ v. IfOk c.find_among.result (IsNth v c.args.nth) in
    subst Q (sym same) c.find_among.ensures.found

pub find_among-find_among-requires-then-begin_within : goal.find_among-find_among-requires-then-begin_within
find_among-find_among-requires-then-begin_within g t c κs within =
    let a = g.V.Volume.state c.args.volume.now in
    let b = g.V.Volume.state c.find_link.new.volume in
    let nodes = c.args.self.now.nodes.items in
    let seen = node_views nodes in
    let is = c.in-Some.ensures.cases.0 in
    let links = c.args.links.now in
    let rest = c.in-Some.rest.now in
    let link = c.in-Some.link.now in
    let reads = c.find_link.ensures.reads in
    let small = rest_small seen links rest link is in (
      omega (arith, small, c.decreases),
      (within, (rest_bounded seen links rest link is c.requires.bounded, (links_moved a b nodes rest reads.keeps reads.shape (others_stand a nodes links rest link is c.requires.stands), c.find_link.ensures.kept))),
    )

pub find_among-returns-then-begin_within-clause-found : goal.find_among-returns-then-begin_within-clause-found
find_among-returns-then-begin_within-clause-found g t c =
    let seen = node_views c.args.self.now.nodes.items in
    let at = c.args.at in
    let link = c.in-Some.link.now in
    let rest = c.in-Some.rest.now in
    let own = of_rank at (contents (bare (inside seen link))) in
    let few = subst (λ (n : Nth). IsNth own c.args.nth n) c.in-Fewer.is c.in_ok-leaf-in-Some.ensures.found in
    let Q : List Link → Type 0 = λ v. IfOk c.find_among-then-begin_within.result (IsNth (of_rank at (contents (bare (row_of seen v)))) c.args.nth) in
    subst Q (sym c.in-Some.ensures.cases.0)
    (on_ok c.find_among-then-begin_within.result (IsNth (of_rank at (contents (bare (row_of seen rest)))) c.in-Fewer.left) (IsNth (of_rank at (contents (bare (row_of seen (link ∷ rest))))) c.args.nth)
    (λ n h. nth_outside seen at link rest c.args.nth c.in-Fewer.left n few h) c.find_among-then-begin_within.ensures.found)

pub find_among-returns-in-Found-clause-found : goal.find_among-returns-in-Found-clause-found
find_among-returns-in-Found-clause-found g t c =
    let seen = node_views c.args.self.now.nodes.items in
    let at = c.args.at in
    let own = of_rank at (contents (bare (inside seen c.in-Some.link.now))) in
    let there = subst (λ (n : Nth). IsNth own c.args.nth n) c.in-Found.is c.in_ok-leaf-in-Some.ensures.found in
    ap (λ v. slice_get (of_rank at (contents (bare (row_of seen v)))) c.args.nth) c.in-Some.ensures.cases.0
    ∙ nth_inside seen at c.in-Some.link.now c.in-Some.rest.now c.args.nth c.in-Found.leaf there

pub find_among-returns-else-begin_within-clause-found : goal.find_among-returns-else-begin_within-clause-found
find_among-returns-else-begin_within-clause-found g t c =
    let seen = node_views c.args.self.now.nodes.items in
    let at = c.args.at in
    let is = c.in-Some.ensures.cases.0 in
    let link = c.in-Some.link.now in
    let rest = c.in-Some.rest.now in
    let left = c.in-Fewer.left in
    let P : List Link → Type 0 = λ v. AreKeysBounded 0 None (row_of seen v) in
    let b = link_bounds seen 0 None link (row_of seen rest) (subst P is c.requires.bounded) in
    let none = none_outside seen at (key_rank (link_key link)) rest left b.behind (sym c.begin_within.ensures ∙ c.if-begin_within.false) in
    let own = of_rank at (contents (bare (inside seen link))) in
    let few = subst (λ (n : Nth). IsNth own c.args.nth n) c.in-Fewer.is c.in_ok-leaf-in-Some.ensures.found in
    nth_outside seen at link rest c.args.nth left (Fewer left) few none ∙ ap (λ v. length (of_rank at (contents (bare (row_of seen v)))) + left) (sym is)

pub find_below-find_below-requires-clause-row : goal.find_below-find_below-requires-clause-row
find_below-find_below-requires-clause-row g t c =
    let s = c.args.self.now in
    let w = walked_on (g.V.Volume.state c.args.volume.now) s.fanout s.nodes.items c.args.number c.in-Some.found s.sound c.in-Some.ensures.some c.requires.stands in
    (s.fanout, w.row, w.on)

pub find_below-returns-in-Some-clause-found : goal.find_below-returns-in-Some-clause-found
find_below-returns-in-Some-clause-found g t c =
    let s = c.args.self.now in
    let w = walked_on (g.V.Volume.state c.args.volume.now) s.fanout s.nodes.items c.args.number c.in-Some.found s.sound c.in-Some.ensures.some c.requires.stands in
    let P : Shape → Type 0 = λ v. IfOk c.find_below.result (IsNth (of_rank c.args.at (contents v)) c.args.nth) in
    subst P w.is (c.find_below.ensures.found s.fanout w.row w.on)

pub find_below-find_among-requires : goal.find_below-find_among-requires
find_below-find_among-requires g t c κs within =
    let a = g.V.Volume.state c.args.volume.now in
    let nodes = c.args.self.now.nodes.items in
    let seen = node_views nodes in
    let found = c.in-Some-loaded_links in
    let links = found.links.now in
    let i = c.lower_links_passed.result in
    let p = passed seen (c.args.at - 1) 0 links i found.ensures.bounded c.lower_links_passed.ensures.begins in
    let same = ap (λ v. row_size (row_of seen v)) c.split_at.ensures.back in
    let whole = ap row_size found.ensures.some in
    let P : List Link → Type 0 = λ v. AreKeysBounded 0 None (row_of seen v) in
    let stands = back_stands a nodes links _ i c.split_at.ensures.back (links_stand a nodes c.args.number links found.ensures.unplaced c.requires.stands) in
    (omega (arith, p.small, same, whole, c.decreases), (within, (subst P (sym c.split_at.ensures.back) p.bounded, (stands, c.requires.kept))))

pub find_below-returns-in-Some-loaded_links-clause-found : goal.find_below-returns-in-Some-loaded_links-clause-found
find_below-returns-in-Some-loaded_links-clause-found g t c =
    let seen = node_views c.args.self.now.nodes.items in
    let at = c.args.at in
    let found = c.in-Some-loaded_links in
    let links = found.links.now in
    let i = c.lower_links_passed.result in
    let p = passed seen (at - 1) 0 links i found.ensures.bounded c.lower_links_passed.ensures.begins in
    let same = ap (λ (r : KeyedRow). of_rank at (contents (bare r))) found.ensures.some ∙ of_rank_lower seen at links i c.lower_links_passed.ensures.positive p
    ∙ ap (λ v. of_rank at (contents (bare (row_of seen v)))) (sym c.split_at.ensures.back) in
    let Q : List Leaf → Type 0 = λ v. IfOk c.find_among.result (IsNth v c.args.nth) in
    subst Q (sym same) c.find_among.ensures.found
