use Rattle.std.proofs.Common.{◌+◌, refl, ap, sym, subst}
use Rattle.index_media.specs.PlacedRow.{PlacedRow, ended, node_at, branches_of, plain}
use Rattle.media_sys.specs.Index.{Index}
use Rattle.node_cache.specs.RowsOn.{row_moved, row_as, below, root_on}
use Rattle.mounted_index.specs.Sizes.{IsSizeOf}
use Rattle.mounted_index.specs.declared.counts.IndexSize.{IndexSize}
use Rattle.mounted_index.proofs.counts.size_from.Goals as goal

pub read_node-requires-clause-node : goal.read_node-requires-clause-node
read_node-requires-clause-node g c =
    let a = g.V.Volume.state c.args.volume.now in
    let f = c.args.fanout in
    let root = c.args.root.now in
    let r = root_on a f root c.requires.index.0 c.requires.index.1 in
    let p = below a f r.level root r.children r.on in
    (record { level = r.level; branches = branches_of r.children }, p.said)

pub count_below-requires : goal.count_below-requires
count_below-requires g c =
    let a = g.V.Volume.state c.args.volume.now in
    let b = g.V.Volume.state c.read_node.new.volume in
    let f = c.args.fanout in
    let root = c.args.root.now in
    let r = root_on a f root c.requires.index.0 c.requires.index.1 in
    let p = below a f r.level root r.children r.on in
    let read = c.in_ok-node.ensures in
    let level = ap (λ (i : Index). i.level) (read.said (record { level = r.level; branches = branches_of r.children }) p.said) in
    let row = node_at root r.children ended in
    record { row = (r.children, row_as b f f (r.level + 1) (c.in_ok-node.node.level + 1) row refl (ap (λ n. n + 1) level) (row_moved a b f (r.level + 1) row read.reads.keeps read.reads.shape r.on)) }

pub returns-clause-counted : goal.returns-clause-counted
returns-clause-counted g c placed h =
    let a = g.V.Volume.state c.args.volume.now in
    let b = g.V.Volume.state c.read_node.new.volume in
    let f = c.args.fanout in
    let root = c.args.root.now in
    let r = root_on a f root placed h in
    let p = below a f r.level root r.children r.on in
    let read = c.in_ok-node.ensures in
    let level = ap (λ (i : Index). i.level) (read.said (record { level = r.level; branches = branches_of r.children }) p.said) in
    let row = node_at root r.children ended in
    let on = row_as b f f (r.level + 1) (c.in_ok-node.node.level + 1) row refl (ap (λ n. n + 1) level) (row_moved a b f (r.level + 1) row read.reads.keeps read.reads.shape r.on) in
    let made = c.in_ok-counts.counts in
    let size : IndexSize = record { nodes = made.nodes; weight = made.weight } in
    let P : PlacedRow → Type 0 = λ row. IsSizeOf f (plain row) size in
    subst P (sym r.is) (c.in_ok-counts.ensures.counted r.children on)
