use Rattle.std.proofs.Common.{◌∙◌}
use Rattle.node_cache.proofs.KeptNodes.{node_of}
use Rattle.node_cache.proofs.cache.NodeCache.node.Goals as goal

pub returns-clause-said : goal.returns-clause-said
returns-clause-said g c = λ said h. c.in_ok-copy.ensures ∙ c.in_ok-node.ensures.said said h

pub returns-clause-kept : goal.returns-clause-kept
returns-clause-kept g c =
    let old = (g.V.Volume.state c.args.volume.now).holds in
    let new = (g.V.Volume.state c.take.new.volume).holds in
    c.keep.ensures.kept new c.take.ensures.kept (node_of old new c.args.branch.now c.in_ok-node.node c.take.ensures.reads.keeps.holds c.in_ok-node.ensures.said)

pub returns-in_err-copy-clause-kept : goal.returns-in_err-copy-clause-kept
returns-in_err-copy-clause-kept g c =
    let old = (g.V.Volume.state c.args.volume.now).holds in
    let new = (g.V.Volume.state c.take.new.volume).holds in
    c.keep.ensures.kept new c.take.ensures.kept (node_of old new c.args.branch.now c.in_ok-node.node c.take.ensures.reads.keeps.holds c.in_ok-node.ensures.said)
