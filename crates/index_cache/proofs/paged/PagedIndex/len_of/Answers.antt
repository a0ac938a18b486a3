use Rattle.std.proofs.Common.{ℕ, ◌+◌, ◌*◌, ◌≡◌, length, ap, sym, ◌∙◌, arith}
use Rattle.index_media.specs.Clean.{placed_of}
use Rattle.index_media.specs.KeyedRow.{KeyedRow}
use Rattle.index_media.specs.PlacedRow.{branches_of}
use Rattle.table_nodes.specs.BeyondLaws.{dirty_row}
use Rattle.table_nodes.specs.NodeView.{node_views, children_in}
use Rattle.node_table.proofs.Cleaning.{ready_node}
use Rattle.index_cache.proofs.Written.{few_links, branches_long}
use Rattle.index_cache.proofs.paged.PagedIndex.len_of.Goals as goal

pub overflow_cast-result : goal.overflow_cast-result
overflow_cast-result c =
    let t = c.args.self.now.table in
    let few = few_links t.fanout (node_views t.nodes.items) c.in-Some.found.now t.most c.in-Some.ensures.sound (dirty_row (node_views t.nodes.items) c.in-Some.found.now (ready_node t.fanout t.nodes.items c.args.node c.in-Some.found.now t.sound c.requires.ready c.in-Some.ensures.some).dirty) in
    let long = c.len.ensures in
    omega (arith, few, long)

pub overflow_mul-result : goal.overflow_mul-result
overflow_mul-result c =
    let t = c.args.self.now.table in
    let few = few_links t.fanout (node_views t.nodes.items) c.in-Some.found.now t.most c.in-Some.ensures.sound (dirty_row (node_views t.nodes.items) c.in-Some.found.now (ready_node t.fanout t.nodes.items c.args.node c.in-Some.found.now t.sound c.requires.ready c.in-Some.ensures.some).dirty) in
    let long = c.len.ensures in
    omega (arith, few, long)

pub overflow_add-result : goal.overflow_add-result
overflow_add-result c =
    let t = c.args.self.now.table in
    let few = few_links t.fanout (node_views t.nodes.items) c.in-Some.found.now t.most c.in-Some.ensures.sound (dirty_row (node_views t.nodes.items) c.in-Some.found.now (ready_node t.fanout t.nodes.items c.args.node c.in-Some.found.now t.sound c.requires.ready c.in-Some.ensures.some).dirty) in
    let long = c.len.ensures in
    omega (arith, few, long)

pub returns-in-None : goal.returns-in-None
returns-in-None c = sym (ap (λ o. 28 + 20 * length (branches_of (placed_of (children_in o)))) c.in-None.ensures.unseen)

pub returns-in-Some : goal.returns-in-Some
returns-in-Some c =
    let t = c.args.self.now.table in
    let links = c.in-Some.found.now.links.items in
    let row = ap children_in c.in-Some.ensures.seen ∙ dirty_row (node_views t.nodes.items) c.in-Some.found.now (ready_node t.fanout t.nodes.items c.args.node c.in-Some.found.now t.sound c.requires.ready c.in-Some.ensures.some).dirty in
    let whole = ap (λ (r : KeyedRow). length (branches_of (placed_of r))) row ∙ branches_long (node_views t.nodes.items) links in
    let same = c.len.ensures in
    let long : c.len.result ≡ length links = omega (arith, same) in
    sym (ap (λ (n : ℕ). 28 + 20 * n) (whole ∙ sym long))
