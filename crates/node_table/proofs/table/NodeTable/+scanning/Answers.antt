use Rattle.std.proofs.Common.{◌≡◌, List, ◌++◌, ap, sym, subst, arith, ◌∙◌, append_assoc}
use Rattle.std.specs.Prelude.{filter, ◌==◌, OnOk}
use Rattle.std.proofs.lemmas.List.Elements.{filter-append}
use Rattle.index_tree.specs.declared.leaf.Leaf.{Leaf}
use Rattle.index_tree.specs.Shape.{Shape, contents}
use Rattle.index_media.specs.KeyedRow.{bare}
use Rattle.table_nodes.specs.NodeView.{node_views, row_of}
use Rattle.node_table.specs.UnloadedLaws.{links_moved, others_stand, walked_on}
use Rattle.node_table.specs.Walk.{inside}
use Rattle.node_table.proofs.Rows.{link_apart}
use Rattle.node_table.proofs.Walked.{rest_small}
use Rattle.node_table.proofs.table.NodeTable.+scanning.Goals as goal

pub push_among-push_among-requires : goal.push_among-push_among-requires
push_among-push_among-requires g t c κs within =
    let a = g.V.Volume.state c.args.volume.now in
    let b = g.V.Volume.state c.push_link.new.volume in
    let nodes = c.args.self.now.nodes.items in
    let seen = node_views nodes in
    let is = c.in-Some.ensures.cases.0 in
    let links = c.args.links.now in
    let rest = c.in-Some.rest.now in
    let link = c.in-Some.link.now in
    let reads = c.push_link.ensures.reads in
    let small = rest_small seen links rest link is in
    (omega (arith, small, c.decreases), (within, (links_moved a b nodes rest reads.keeps reads.shape (others_stand a nodes links rest link is c.requires.stands), c.push_link.ensures.kept)))

pub push_among-returns-in_ok-push_link-in-Some-clause-pushed : goal.push_among-returns-in_ok-push_link-in-Some-clause-pushed
push_among-returns-in_ok-push_link-in-Some-clause-pushed g t c =
    let seen = node_views c.args.self.now.nodes.items in
    let old = c.args.leaves.now.items in
    let own = filter (λ (x : Leaf). x.lnum == c.args.lnum) (contents (bare (inside seen c.in-Some.link.now))) in
    let behind = filter (λ (x : Leaf). x.lnum == c.args.lnum) (contents (bare (row_of seen c.in-Some.rest.now))) in
    let apart = ap (λ v. filter (λ (x : Leaf). x.lnum == c.args.lnum) (contents (bare (row_of seen v)))) c.in-Some.ensures.cases.0
    ∙ ap (λ (v : List Leaf). filter (λ x. x.lnum == c.args.lnum) v) (link_apart seen c.in-Some.link.now (row_of seen c.in-Some.rest.now))
    ∙ filter-append (λ (x : Leaf). x.lnum == c.args.lnum) (contents (bare (inside seen c.in-Some.link.now))) (contents (bare (row_of seen c.in-Some.rest.now))) in
    let P : List Leaf → Type 0 = λ v. OnOk c.push_among.result (c.push_among.new.leaves.items ≡ v) in
    let whole = ap (λ (v : List Leaf). v ++ behind) c.in_ok-push_link-in-Some.ensures.pushed ∙ append_assoc old own behind ∙ ap (λ (v : List Leaf). old ++ v) (sym apart) in
    subst P whole c.push_among.ensures.pushed

pub push_below-push_below-requires-clause-row : goal.push_below-push_below-requires-clause-row
push_below-push_below-requires-clause-row g t c =
    let s = c.args.self.now in
    let w = walked_on (g.V.Volume.state c.args.volume.now) s.fanout s.nodes.items c.args.number c.in-Some.found s.sound c.in-Some.ensures.some c.requires.stands in
    (s.fanout, w.row, w.on)

pub push_below-returns-in-Some-clause-pushed : goal.push_below-returns-in-Some-clause-pushed
push_below-returns-in-Some-clause-pushed g t c =
    let s = c.args.self.now in
    let w = walked_on (g.V.Volume.state c.args.volume.now) s.fanout s.nodes.items c.args.number c.in-Some.found s.sound c.in-Some.ensures.some c.requires.stands in
    let P : Shape → Type 0 = λ v. OnOk c.push_below.result (c.push_below.new.leaves.items ≡ c.args.leaves.now.items ++ filter (λ x. x.lnum == c.args.lnum) (contents v)) in
    subst P w.is (c.push_below.ensures.pushed s.fanout w.row w.on)
