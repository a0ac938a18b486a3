use Rattle.node_cache.proofs.KeptNodes.{at_place, few_said, kept_moved}
use Rattle.node_cache.proofs.cache.NodeCache.take.Goals as goal

pub returns-in-Some-clause-said : goal.returns-in-Some-clause-said
returns-in-Some-clause-said g c = λ said h.
    let holds = (g.V.Volume.state c.args.volume.now).holds in
    c.in-Some.ensures.node holds c.requires.kept said (at_place holds c.args.branch.now said h)

pub returns-in-Some-clause-few : goal.returns-in-Some-clause-few
returns-in-Some-clause-few g c =
    let holds = (g.V.Volume.state c.args.volume.now).holds in
    let own = c.requires.node in
    few_said holds c.args.branch.now c.in-Some.node own.0 own.1 (c.in-Some.ensures.node holds c.requires.kept own.0 (at_place holds c.args.branch.now own.0 own.1))

pub returns-in-Some-clause-kept : goal.returns-in-Some-clause-kept
returns-in-Some-clause-kept g c = c.take_kept.ensures.kept (g.V.Volume.state c.args.volume.now).holds c.requires.kept

pub returns-in-None-clause-kept : goal.returns-in-None-clause-kept
returns-in-None-clause-kept g c =
    let old = (g.V.Volume.state c.args.volume.now).holds in
    let new = (g.V.Volume.state c.read_node.new.volume).holds in
    kept_moved old new c.take_kept.new.self.nodes c.read_node.ensures.reads.keeps.holds (c.take_kept.ensures.kept old c.requires.kept)
