use Rattle.std.proofs.Common.{◌≡◌}
use Rattle.std.specs.Prelude.{IfOk}
use Rattle.index_tree.specs.Removal.{holds}
use Rattle.index_tree.specs.Shape.{Shape, contents}
use Rattle.mounted_index.proofs.Shown.{index_stands, looked_shown, of_medium}
use Rattle.mounted_index.proofs.mounted.MountedIndex.holds.Goals as goal

pub returns-in-OnMedium-clause-found : goal.returns-in-OnMedium-clause-found
returns-in-OnMedium-clause-found g c = λ row shown.
    let P : Shape → Type 0 = λ s. IfOk c.holds.result (λ found. found ≡ holds c.args.leaf.now (contents s)) in
    of_medium c.an_insertion_goes_by_the_keys_of_branches.ensures.clean (g.V.Volume.state c.args.volume.now) c.args.self.now.geometry.fanout row c.args.self.now.nodes c.in-OnMedium.root P c.in-OnMedium.is shown.nodes
    (λ placed on. c.holds.ensures.found c.args.self.now.geometry.fanout placed on)

pub returns-in-OnMedium-clause-kept : goal.returns-in-OnMedium-clause-kept
returns-in-OnMedium-clause-kept g c =
    let reads = c.holds.ensures.reads in
    looked_shown (g.V.Volume.state c.args.volume.now) (g.V.Volume.state c.holds.new.volume) c.args.self.now c.holds.new.self reads.keeps reads.shape (λ kept. c.holds.ensures.kept)

pub returns-in-InMemory-clause-kept : goal.returns-in-InMemory-clause-kept
returns-in-InMemory-clause-kept g c =
    let reads = c.holds-in-InMemory.ensures.reads in
    looked_shown (g.V.Volume.state c.args.volume.now) (g.V.Volume.state c.holds-in-InMemory.new.volume) c.args.self.now c.holds-in-InMemory.new.cache reads.keeps reads.shape (λ kept. c.holds-in-InMemory.ensures.kept)

pub holds-requires-in-InMemory-clause-stands : goal.holds-requires-in-InMemory-clause-stands
holds-requires-in-InMemory-clause-stands g c = let own = c.requires.shown in index_stands (g.V.Volume.state c.args.volume.now) c.args.self.now own.0 c.in-InMemory.index c.in-InMemory.is own.1
