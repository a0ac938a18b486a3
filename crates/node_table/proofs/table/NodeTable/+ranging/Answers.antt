use Rattle.std.proofs.Common.{◌≡◌, None, List, ◌++◌, ◌-◌, ap, sym, subst, arith, ◌∙◌}
use Rattle.std.specs.Prelude.{OnOk}
use Rattle.index_tree.specs.RangeRemoval.{within_range}
use Rattle.index_tree.specs.Shape.{Shape, contents}
use Rattle.index_tree.specs.declared.leaf.Leaf.{Leaf}
use Rattle.index_media.specs.KeyedKeys.{AreKeysBounded}
use Rattle.index_media.specs.KeyedRow.{KeyedRow, bare}
use Rattle.table_nodes.specs.NodeView.{node_views, row_of}
use Rattle.table_nodes.specs.declared.link.Link.{Link}
use Rattle.node_table.specs.UnloadedLaws.{back_stands, links_moved, links_stand, others_stand, walked_on}
use Rattle.node_table.proofs.Pruned.{link_lower, links_higher, range_behind, range_inside, range_lower}
use Rattle.node_table.proofs.Rows.{row_size, passed}
use Rattle.node_table.proofs.Walked.{rest_bounded, rest_small}
use Rattle.node_table.proofs.table.NodeTable.+ranging.Goals as goal

pub push_range_among-returns-then-begin_below-clause-pushed : goal.push_range_among-returns-then-begin_below-clause-pushed
push_range_among-returns-then-begin_below-clause-pushed g t c =
    let seen = node_views c.args.self.now.nodes.items in
    let is = c.in-Some.ensures.cases.0 in
    let link = c.in-Some.link.now in
    let rest = c.in-Some.rest.now in
    let above = c.begin_below.ensures.positive c.if-begin_below.true in
    let low = link_lower seen c.args.from c.args.to link rest c.args.links.now is above c.requires.bounded (c.begin_below.ensures.begins c.if-begin_below.true) in
    let Q : List Leaf → Type 0 = λ v. OnOk c.push_range_among.result (c.push_range_among.new.leaves.items ≡ c.args.leaves.now.items ++ v) in
    subst Q (sym (range_behind seen c.args.from c.args.to link rest c.args.links.now is low)) c.push_range_among.ensures.pushed

pub push_range_among-push_range_among-requires-then-begin_within : goal.push_range_among-push_range_among-requires-then-begin_within
push_range_among-push_range_among-requires-then-begin_within g t c κs within =
    let a = g.V.Volume.state c.args.volume.now in
    let b = g.V.Volume.state c.push_range_link.new.volume in
    let nodes = c.args.self.now.nodes.items in
    let seen = node_views nodes in
    let is = c.in-Some.ensures.cases.0 in
    let links = c.args.links.now in
    let rest = c.in-Some.rest.now in
    let link = c.in-Some.link.now in
    let reads = c.push_range_link.ensures.reads in
    let small = rest_small seen links rest link is in (
      omega (arith, small, c.decreases),
      (within, (rest_bounded seen links rest link is c.requires.bounded, (links_moved a b nodes rest reads.keeps reads.shape (others_stand a nodes links rest link is c.requires.stands), c.push_range_link.ensures.kept))),
    )

pub push_range_among-returns-else-begin_within-clause-pushed : goal.push_range_among-returns-else-begin_within-clause-pushed
push_range_among-returns-else-begin_within-clause-pushed g t c =
    let seen = node_views c.args.self.now.nodes.items in
    let is = c.in-Some.ensures.cases.0 in
    let link = c.in-Some.link.now in
    let rest = c.in-Some.rest.now in
    let none = links_higher seen c.args.from c.args.to link rest c.args.links.now is c.requires.bounded (sym c.begin_within.ensures ∙ c.if-begin_within.false) in
    c.in_ok-push_range_link-in-Some.ensures.pushed
    ∙ ap (λ (v : List Leaf). c.args.leaves.now.items ++ v) (sym (range_inside seen c.args.from c.args.to link rest c.args.links.now is none))

pub push_range_below-push_range_below-requires-clause-row : goal.push_range_below-push_range_below-requires-clause-row
push_range_below-push_range_below-requires-clause-row g t c =
    let s = c.args.self.now in
    let w = walked_on (g.V.Volume.state c.args.volume.now) s.fanout s.nodes.items c.args.number c.in-Some.found s.sound c.in-Some.ensures.some c.requires.stands in
    (s.fanout, w.row, w.on)

pub push_range_below-returns-in-Some-clause-pushed : goal.push_range_below-returns-in-Some-clause-pushed
push_range_below-returns-in-Some-clause-pushed g t c =
    let s = c.args.self.now in
    let w = walked_on (g.V.Volume.state c.args.volume.now) s.fanout s.nodes.items c.args.number c.in-Some.found s.sound c.in-Some.ensures.some c.requires.stands in
    let P : Shape → Type 0 = λ v. OnOk c.push_range_below.result (c.push_range_below.new.leaves.items ≡ c.args.leaves.now.items ++ within_range c.args.from c.args.to (contents v)) in
    subst P w.is (c.push_range_below.ensures.pushed s.fanout w.row w.on)

pub push_range_below-push_range_among-requires : goal.push_range_below-push_range_among-requires
push_range_below-push_range_among-requires g t c κs within =
    let a = g.V.Volume.state c.args.volume.now in
    let nodes = c.args.self.now.nodes.items in
    let seen = node_views nodes in
    let found = c.in-Some-loaded_links in
    let links = found.links.now in
    let i = c.lower_links_passed.result in
    let p = passed seen (c.args.from - 1) 0 links i found.ensures.bounded c.lower_links_passed.ensures.begins in
    let same = ap (λ v. row_size (row_of seen v)) c.split_at.ensures.back in
    let whole = ap row_size found.ensures.some in
    let P : List Link → Type 0 = λ v. AreKeysBounded 0 None (row_of seen v) in
    let stands = back_stands a nodes links _ i c.split_at.ensures.back (links_stand a nodes c.args.number links found.ensures.unplaced c.requires.stands) in
    (omega (arith, p.small, same, whole, c.decreases), (within, (subst P (sym c.split_at.ensures.back) p.bounded, (stands, c.requires.kept))))

pub push_range_below-returns-in-Some-loaded_links-clause-pushed : goal.push_range_below-returns-in-Some-loaded_links-clause-pushed
push_range_below-returns-in-Some-loaded_links-clause-pushed g t c =
    let seen = node_views c.args.self.now.nodes.items in
    let from = c.args.from in
    let to = c.args.to in
    let found = c.in-Some-loaded_links in
    let links = found.links.now in
    let i = c.lower_links_passed.result in
    let p = passed seen (from - 1) 0 links i found.ensures.bounded c.lower_links_passed.ensures.begins in
    let same = ap (λ (r : KeyedRow). within_range from to (contents (bare r))) found.ensures.some ∙ range_lower seen from to links i c.lower_links_passed.ensures.positive p
    ∙ ap (λ v. within_range from to (contents (bare (row_of seen v)))) (sym c.split_at.ensures.back) in
    let Q : List Leaf → Type 0 = λ v. OnOk c.push_range_among.result (c.push_range_among.new.leaves.items ≡ c.args.leaves.now.items ++ v) in
    subst Q (sym same) c.push_range_among.ensures.pushed
