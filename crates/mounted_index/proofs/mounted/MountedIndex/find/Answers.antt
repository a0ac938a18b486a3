use Rattle.std.proofs.Common.{◌≡◌}
use Rattle.std.specs.Prelude.{IfOk, slice_get}
use Rattle.index_tree.specs.Order.{key_rank, of_rank}
use Rattle.index_tree.specs.Shape.{Shape, contents}
use Rattle.mounted_index.proofs.Shown.{index_stands, looked_shown, of_medium}
use Rattle.mounted_index.proofs.mounted.MountedIndex.find.Goals as goal

pub returns-in-OnMedium-clause-found : goal.returns-in-OnMedium-clause-found
returns-in-OnMedium-clause-found g c = λ row shown.
    let P : Shape → Type 0 = λ s. IfOk c.find.result (λ found. found ≡ slice_get (of_rank (key_rank c.args.key.now) (contents s)) c.args.nth) in
    of_medium c.an_insertion_goes_by_the_keys_of_branches.ensures.clean (g.V.Volume.state c.args.volume.now) c.args.self.now.geometry.fanout row c.args.self.now.nodes c.in-OnMedium.root P c.in-OnMedium.is shown.nodes
    (λ placed on. c.find.ensures.found c.args.self.now.geometry.fanout placed on)

pub returns-in-OnMedium-clause-kept : goal.returns-in-OnMedium-clause-kept
returns-in-OnMedium-clause-kept g c =
    let reads = c.find.ensures.reads in
    looked_shown (g.V.Volume.state c.args.volume.now) (g.V.Volume.state c.find.new.volume) c.args.self.now c.find.new.self reads.keeps reads.shape (λ kept. c.find.ensures.kept)

pub returns-in-InMemory-clause-kept : goal.returns-in-InMemory-clause-kept
returns-in-InMemory-clause-kept g c =
    let reads = c.find-in-InMemory.ensures.reads in
    looked_shown (g.V.Volume.state c.args.volume.now) (g.V.Volume.state c.find-in-InMemory.new.volume) c.args.self.now c.find-in-InMemory.new.cache reads.keeps reads.shape (λ kept. c.find-in-InMemory.ensures.kept)

pub find-requires-in-InMemory-clause-stands : goal.find-requires-in-InMemory-clause-stands
find-requires-in-InMemory-clause-stands g c = let own = c.requires.shown in index_stands (g.V.Volume.state c.args.volume.now) c.args.self.now own.0 c.in-InMemory.index c.in-InMemory.is own.1
