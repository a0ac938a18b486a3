use Rattle.std.proofs.Common.{◌+◌, ◌∙◌, ap, sym, subst}
use Rattle.std.specs.Prelude.{None}
use Rattle.index_media.specs.InsertionSound.{AreKeys}
use Rattle.index_media.specs.KeyedKeys.{AreKeysBounded}
use Rattle.index_media.specs.KeyedRow.{KeyedRow, no_more, all_clean}
use Rattle.index_media.specs.PlacedRow.{ended, node_at, branches_of}
use Rattle.media_sys.specs.Index.{Index}
use Rattle.node_cache.specs.RowsOn.{row_moved, row_as, below, root_on, clean_bounded}
use Rattle.node_table.proofs.StubAdded.{clean_keys}
use Rattle.index_cache.proofs.paged.PagedIndex.at_root.Goals as goal

pub read_node-requires-clause-node : goal.read_node-requires-clause-node
read_node-requires-clause-node g c =
    let a = g.V.Volume.state c.args.volume.now in
    let f = c.args.geo.now.fanout in
    let root = c.args.root.now in
    let r = root_on a f root c.requires.index.0 c.requires.index.1 in
    let p = below a f r.level root r.children r.on in
    (record { level = r.level; branches = branches_of r.children }, p.said)

pub add_unloaded-requires : goal.add_unloaded-requires
add_unloaded-requires g c =
    let a = g.V.Volume.state c.args.volume.now in
    let b = g.V.Volume.state c.read_node.new.volume in
    let f = c.args.geo.now.fanout in
    let root = c.args.root.now in
    let r = root_on a f root c.requires.index.0 c.requires.index.1 in
    let p = below a f r.level root r.children r.on in
    let read = c.in_ok-node.ensures in
    let level = ap (λ (i : Index). i.level) (read.said (record { level = r.level; branches = branches_of r.children }) p.said) in
    let row = node_at root r.children ended in
    record { row = (r.children, row_as b f c.new-table.result.fanout (r.level + 1) (c.in_ok-node.node.level + 1) row c.new-table.ensures.fanout (ap (λ n. n + 1) level) (row_moved a b f (r.level + 1) row read.reads.keeps read.reads.shape r.on)) }

pub invariant_of-result : goal.invariant_of-result
invariant_of-result g c =
    let a = g.V.Volume.state c.args.volume.now in
    let b = g.V.Volume.state c.read_node.new.volume in
    let f = c.args.geo.now.fanout in
    let root = c.args.root.now in
    let r = root_on a f root c.requires.index.0 c.requires.index.1 in
    let p = below a f r.level root r.children r.on in
    let read = c.in_ok-node.ensures in
    let level = ap (λ (i : Index). i.level) (read.said (record { level = r.level; branches = branches_of r.children }) p.said) in
    let row = node_at root r.children ended in
    let on = row_as b f c.new-table.result.fanout (r.level + 1) (c.in_ok-node.node.level + 1) row c.new-table.ensures.fanout (ap (λ n. n + 1) level) (row_moved a b f (r.level + 1) row read.reads.keeps read.reads.shape r.on) in
    let tree = c.in_ok-number.ensures.shown r.children on root.key no_more in
    let stands = c.in_ok-number.ensures.stands root.key in
    let B : KeyedRow → Type 0 = λ t. AreKeysBounded 0 None t in
    let K : KeyedRow → Type 0 = λ t. AreKeys t in
    record {
      there = stands.there.0;
      bounded = subst B (sym tree) (clean_bounded 0 None row r.on.bounded);
      keys = subst K (sym tree) (clean_keys a.holds (r.level + 1) row r.on.keys r.on.stored);
      frozen_there = tt;
      frozen_bounded = tt;
      frozen_keys = tt;
    }

pub returns-clause-stands : goal.returns-clause-stands
returns-clause-stands g c = let stands = c.in_ok-number.ensures.stands c.args.root.now.key in stands.stand

pub returns-clause-loaded : goal.returns-clause-loaded
returns-clause-loaded g c placed h =
    let a = g.V.Volume.state c.args.volume.now in
    let b = g.V.Volume.state c.read_node.new.volume in
    let f = c.args.geo.now.fanout in
    let root = c.args.root.now in
    let r = root_on a f root placed h in
    let p = below a f r.level root r.children r.on in
    let read = c.in_ok-node.ensures in
    let level = ap (λ (i : Index). i.level) (read.said (record { level = r.level; branches = branches_of r.children }) p.said) in
    let row = node_at root r.children ended in
    let on = row_as b f c.new-table.result.fanout (r.level + 1) (c.in_ok-node.node.level + 1) row c.new-table.ensures.fanout (ap (λ n. n + 1) level) (row_moved a b f (r.level + 1) row read.reads.keeps read.reads.shape r.on) in
    c.in_ok-number.ensures.shown r.children on root.key no_more ∙ ap all_clean (sym r.is)
