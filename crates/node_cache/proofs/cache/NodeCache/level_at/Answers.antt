use Rattle.std.proofs.Common.{ap}
use Rattle.media_sys.specs.Index.{Index}
use Rattle.node_cache.proofs.KeptNodes.{node_of}
use Rattle.node_cache.proofs.cache.NodeCache.level_at.Goals as goal

pub returns-clause-level : goal.returns-clause-level
returns-clause-level g c = λ said h. ap (λ (i : Index). i.level) (c.in_ok-node.ensures.said said h)

pub returns-clause-kept : goal.returns-clause-kept
returns-clause-kept g c =
    let old = (g.V.Volume.state c.args.volume.now).holds in
    let new = (g.V.Volume.state c.take.new.volume).holds in
    c.keep.ensures.kept new c.take.ensures.kept (node_of old new c.args.branch.now c.in_ok-node.node c.take.ensures.reads.keeps.holds c.in_ok-node.ensures.said)
