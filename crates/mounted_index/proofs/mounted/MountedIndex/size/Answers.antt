use Rattle.index_tree.specs.Shape.{Shape}
use Rattle.mounted_index.specs.Sizes.{IsSizeOf}
use Rattle.mounted_index.proofs.Shown.{index_stands, looked_shown, of_medium}
use Rattle.mounted_index.proofs.mounted.MountedIndex.size.Goals as goal

pub returns-in_err-size-in-OnMedium-clause-kept : goal.returns-in_err-size-in-OnMedium-clause-kept
returns-in_err-size-in-OnMedium-clause-kept g c =
    let a = g.V.Volume.state c.args.volume.now in
    let b = g.V.Volume.state c.size_from.new.volume in
    let self = c.args.self.now in
    let reads = c.size_from.ensures.reads in
    looked_shown a b self self.cache reads.keeps reads.shape (c.kept_nodes_stay.ensures a.holds b.holds self.cache (λ place node there. reads.keeps.holds place.0))

pub returns-in_ok-size-in-OnMedium-clause-size : goal.returns-in_ok-size-in-OnMedium-clause-size
returns-in_ok-size-in-OnMedium-clause-size g c = λ row shown.
    let f = c.args.self.now.geometry.fanout in
    let P : Shape → Type 0 = λ s. IsSizeOf f s c.in_ok-size-in-OnMedium.size in
    of_medium c.an_insertion_goes_by_the_keys_of_branches.ensures.clean (g.V.Volume.state c.args.volume.now) f row c.args.self.now.nodes c.in-OnMedium.root P c.in-OnMedium.is shown.nodes (λ placed on.
    c.in_ok-size-in-OnMedium.ensures.counted placed on)

pub returns-in_ok-size-in-OnMedium-clause-kept : goal.returns-in_ok-size-in-OnMedium-clause-kept
returns-in_ok-size-in-OnMedium-clause-kept g c =
    let a = g.V.Volume.state c.args.volume.now in
    let b = g.V.Volume.state c.size_from.new.volume in
    let self = c.args.self.now in
    let reads = c.size_from.ensures.reads in
    looked_shown a b self self.cache reads.keeps reads.shape (c.kept_nodes_stay.ensures a.holds b.holds self.cache (λ place node there. reads.keeps.holds place.0))

pub size-requires : goal.size-requires
size-requires g c = let own = c.requires.shown in record { stands = index_stands (g.V.Volume.state c.args.volume.now) c.args.self.now own.0 c.in-InMemory.index c.in-InMemory.is own.1 }

pub returns-in_err-size-in-InMemory-clause-kept : goal.returns-in_err-size-in-InMemory-clause-kept
returns-in_err-size-in-InMemory-clause-kept g c =
    let a = g.V.Volume.state c.args.volume.now in
    let b = g.V.Volume.state c.size.new.volume in
    let self = c.args.self.now in
    let reads = c.size.ensures.reads in
    looked_shown a b self self.cache reads.keeps reads.shape (c.kept_nodes_stay.ensures a.holds b.holds self.cache (λ place node there. reads.keeps.holds place.0))

pub returns-in_ok-size-in-InMemory-clause-kept : goal.returns-in_ok-size-in-InMemory-clause-kept
returns-in_ok-size-in-InMemory-clause-kept g c =
    let a = g.V.Volume.state c.args.volume.now in
    let b = g.V.Volume.state c.size.new.volume in
    let self = c.args.self.now in
    let reads = c.size.ensures.reads in
    looked_shown a b self self.cache reads.keeps reads.shape (c.kept_nodes_stay.ensures a.holds b.holds self.cache (λ place node there. reads.keeps.holds place.0))
