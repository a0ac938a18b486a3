use Rattle.std.proofs.Common.{arith}
use Rattle.table_nodes.specs.NodeView.{node_views}
use Rattle.node_table.specs.UnloadedLaws.{links_moved, others_stand, walked_on}
use Rattle.node_table.proofs.Counted.{sized, sized_there}
use Rattle.node_table.proofs.Walked.{rest_small}
use Rattle.node_table.proofs.table.NodeTable.+sizing.Goals as goal

pub size_among-size_among-requires : goal.size_among-size_among-requires
size_among-size_among-requires g t c κs within =
    let a = g.V.Volume.state c.args.volume.now in
    let b = g.V.Volume.state c.size_link.new.volume in
    let nodes = c.args.self.now.nodes.items in
    let seen = node_views nodes in
    let is = c.in-Some.ensures.cases.0 in
    let links = c.args.links.now in
    let rest = c.in-Some.rest.now in
    let link = c.in-Some.link.now in
    let reads = c.size_link.ensures.reads in
    let small = rest_small seen links rest link is in
    (omega (arith, small, c.decreases), (within, links_moved a b nodes rest reads.keeps reads.shape (others_stand a nodes links rest link is c.requires.stands)))

pub size_at-count_below-requires : goal.size_at-count_below-requires
size_at-count_below-requires g t c =
    let s = c.args.self.now in
    let w = walked_on (g.V.Volume.state c.args.volume.now) s.fanout s.nodes.items c.args.number c.in-Some.found s.sound c.in-Some.ensures.some c.requires.stands in
    record { row = (w.row, w.on) }

pub size_at-returns-in-Some-clause-counted : goal.size_at-returns-in-Some-clause-counted
size_at-returns-in-Some-clause-counted g t c =
    let s = c.args.self.now in
    let found = c.in-Some.found in
    let w = walked_on (g.V.Volume.state c.args.volume.now) s.fanout s.nodes.items c.args.number found s.sound c.in-Some.ensures.some c.requires.stands in
    sized_there s.fanout found.branch w.row _ c.count_below.result w.is (c.count_below.ensures.counted w.row w.on)

pub size_at-returns-in_ok-own-in-Some-loaded_links-clause-counted : goal.size_at-returns-in_ok-own-in-Some-loaded_links-clause-counted
size_at-returns-in_ok-own-in-Some-loaded_links-clause-counted g t c =
    let below = c.in_ok-below-in-Some-loaded_links in
    let own = c.in_ok-own-in-Some-loaded_links in
    sized c.args.self.now.fanout (node_views c.args.self.now.nodes.items) c.in-Some-loaded_links.links.now _ c.counts_alone.result own.own below.below c.in-Some-loaded_links.ensures.some
    own.ensures.nodes own.ensures.weight c.counts_alone.ensures.nodes c.counts_alone.ensures.weight below.ensures.nodes below.ensures.weight
