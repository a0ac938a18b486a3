use Rattle.std.proofs.Common.{sym, ◌∙◌}
use Rattle.mounted_index.specs.declared.mounted.IndexNodes.TheVariants.{InMemory}
use Rattle.mounted_index.proofs.Shown.{staged_as}
use Rattle.mounted_index.proofs.Running.{adopted_nowhere, adopted_running, adopted_stands}
use Rattle.mounted_index.proofs.mounted.MountedIndex.adopt.Goals as goal

pub returns-in-OnMedium-clause-running : goal.returns-in-OnMedium-clause-running
returns-in-OnMedium-clause-running g c = λ kept given begun row made h s keeps. absurd (adopted_nowhere (g.V.Volume.state c.args.volume.now) c.args.self.now made c.args.staged c.in-OnMedium.field-0 c.in-OnMedium.is s)

pub returns-in-InMemory-clause-running : goal.returns-in-InMemory-clause-running
returns-in-InMemory-clause-running g c = λ kept given begun row made h s keeps.
    adopted_running (g.V.Volume.state c.args.volume.now) kept given begun c.args.self.now row made c.in-InMemory.index c.adopt.new.self c.args.staged c.in-InMemory.is c.adopt.ensures.keeps c.adopt.ensures.tree
    (adopted_stands (g.V.Volume.state c.args.volume.now) c.in-InMemory.index c.adopt.new.self c.args.staged c.adopt.ensures.nodes c.adopt.ensures.root) h s keeps

pub returns-in-InMemory-clause-shown : goal.returns-in-InMemory-clause-shown
returns-in-InMemory-clause-shown g c = λ row s.
    let b = g.V.Volume.state c.args.volume.now in
    let self = c.args.self.now in
    let index = c.in-InMemory.index in
    let own = staged_as b self.geometry.fanout row c.args.staged self.nodes (InMemory index) c.in-InMemory.is s.nodes in
    record { nodes = (own.0 ∙ sym c.adopt.ensures.tree, c.adopt.ensures.fanout ∙ own.1, adopted_stands b index c.adopt.new.self c.args.staged c.adopt.ensures.nodes c.adopt.ensures.root own.3); kept = s.kept }
