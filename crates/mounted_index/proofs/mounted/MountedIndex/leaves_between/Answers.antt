use Rattle.std.proofs.Common.{◌≡◌}
use Rattle.std.specs.Prelude.{IfOk}
use Rattle.index_tree.specs.Order.{key_rank}
use Rattle.index_tree.specs.RangeRemoval.{within_range}
use Rattle.index_tree.specs.Shape.{Shape, contents}
use Rattle.mounted_index.proofs.Shown.{index_stands, looked_shown, of_medium}
use Rattle.mounted_index.proofs.mounted.MountedIndex.leaves_between.Goals as goal

pub returns-in-OnMedium-clause-leaves : goal.returns-in-OnMedium-clause-leaves
returns-in-OnMedium-clause-leaves g c = λ row shown.
    let P : Shape → Type 0 = λ s. IfOk c.leaves_between.result (λ leaves. leaves.items ≡ within_range (key_rank c.args.from.now) (key_rank c.args.to.now) (contents s)) in
    of_medium c.an_insertion_goes_by_the_keys_of_branches.ensures.clean (g.V.Volume.state c.args.volume.now) c.args.self.now.geometry.fanout row c.args.self.now.nodes c.in-OnMedium.root P c.in-OnMedium.is shown.nodes
    (λ placed on. c.leaves_between.ensures.leaves c.args.self.now.geometry.fanout placed on)

pub returns-in-OnMedium-clause-kept : goal.returns-in-OnMedium-clause-kept
returns-in-OnMedium-clause-kept g c =
    let reads = c.leaves_between.ensures.reads in
    looked_shown (g.V.Volume.state c.args.volume.now) (g.V.Volume.state c.leaves_between.new.volume) c.args.self.now c.leaves_between.new.self reads.keeps reads.shape (λ kept. c.leaves_between.ensures.kept)

pub returns-in-InMemory-clause-kept : goal.returns-in-InMemory-clause-kept
returns-in-InMemory-clause-kept g c =
    let reads = c.leaves_between-in-InMemory.ensures.reads in
    looked_shown (g.V.Volume.state c.args.volume.now) (g.V.Volume.state c.leaves_between-in-InMemory.new.volume) c.args.self.now c.leaves_between-in-InMemory.new.cache reads.keeps reads.shape (λ kept. c.leaves_between-in-InMemory.ensures.kept)

pub leaves_between-requires-in-InMemory-clause-stands : goal.leaves_between-requires-in-InMemory-clause-stands
leaves_between-requires-in-InMemory-clause-stands g c = let own = c.requires.shown in index_stands (g.V.Volume.state c.args.volume.now) c.args.self.now own.0 c.in-InMemory.index c.in-InMemory.is own.1
