use Rattle.std.proofs.Common.{length, ap, sym, ◌∙◌}
use Rattle.mounted_index.specs.Committed.{nodes_to_write}
use Rattle.mounted_index.proofs.Committed.{frozen_dirty, index_as}
use Rattle.mounted_index.proofs.Running.{begun_alone, begun_frozen, frozen_shown, same_shown}
use Rattle.mounted_index.proofs.mounted.MountedIndex.begin_commit.Goals as goal

pub returns-in-OnMedium-clause-begun : goal.returns-in-OnMedium-clause-begun
returns-in-OnMedium-clause-begun g c = λ row kept s stands settled. begun_alone (g.V.Volume.state c.args.volume.now) kept c.args.self.now row c.in-OnMedium.field-0 c.in-OnMedium.is s stands settled

pub returns-in-OnMedium-clause-kept : goal.returns-in-OnMedium-clause-kept
returns-in-OnMedium-clause-kept g c = same_shown (g.V.Volume.state c.args.volume.now) c.args.self.now

pub returns-in-InMemory-clause-begun : goal.returns-in-InMemory-clause-begun
returns-in-InMemory-clause-begun g c = λ row kept s stands settled.
    begun_frozen c.places_are_kept.ensures.none (g.V.Volume.state c.args.volume.now) kept c.args.self.now row c.in-InMemory.index c.freeze.new.self c.in-InMemory.is c.freeze.ensures.frozen c.freeze.ensures.tree c.freeze.ensures.fanout
    (index_as (g.V.Volume.state c.args.volume.now) c.in-InMemory.index c.freeze.new.self c.freeze.ensures.nodes c.freeze.ensures.seen) s stands settled

pub returns-in-InMemory-clause-nodes : goal.returns-in-InMemory-clause-nodes
returns-in-InMemory-clause-nodes g c =
    let begun = c.freeze.new.self in
    let dirty = ap length (frozen_dirty c.in-InMemory.index begun c.freeze.ensures.nodes c.freeze.ensures.root) in
    (c.dirty_nodes.ensures ∙ dirty ∙ sym (ap nodes_to_write c.in-InMemory.is), sym c.dirty_nodes.ensures)

pub returns-in-InMemory-clause-kept : goal.returns-in-InMemory-clause-kept
returns-in-InMemory-clause-kept g c = frozen_shown (g.V.Volume.state c.args.volume.now) c.args.self.now c.in-InMemory.index c.freeze.new.self c.in-InMemory.is c.freeze.ensures.nodes c.freeze.ensures.seen c.freeze.ensures.fanout
