use Rattle.std.proofs.Common.{◌++◌, ◌∙◌, refl, sym}
use Rattle.commit_steps.specs.UnderWayLaws.{WorksBeside-keeps}
use Rattle.mounted_index.specs.Shown.{Shows}
use Rattle.mounted_index.specs.declared.mounted.IndexNodes.TheVariants.{OnMedium}
use Rattle.mounted_index.specs.RunningLaws.{IsCommitRunning-beside}
use Rattle.mounted_index.proofs.Committed.{index_as}
use Rattle.mounted_index.proofs.Running.{loaded_running}
use Rattle.mounted_index.proofs.Shown.{nodes_as, nodes_moved}
use Rattle.mounted_index.proofs.mounted.MountedIndex.load.Goals as goal

pub returns-in_err-index-in-OnMedium-clause-shown : goal.returns-in_err-index-in-OnMedium-clause-shown
returns-in_err-index-in-OnMedium-clause-shown g c = λ row h.
    let a = g.V.Volume.state c.args.volume.now in
    let b = g.V.Volume.state c.at_root.new.volume in
    let self = c.args.self.now in
    let keeps = c.at_root.ensures.reads.keeps in
    record {
      nodes = nodes_moved a b self.geometry.fanout row self.nodes keeps c.at_root.ensures.reads.shape h.nodes;
      kept = c.kept_nodes_stay.ensures a.holds b.holds self.cache (λ place node there. keeps.holds place.0) h.kept;
    }

pub returns-in_err-index-in-OnMedium-clause-running : goal.returns-in_err-index-in-OnMedium-clause-running
returns-in_err-index-in-OnMedium-clause-running g c = λ kept given begun row h.
    let a = g.V.Volume.state c.args.volume.now in
    let b = g.V.Volume.state c.at_root.new.volume in
    let self = c.args.self.now in
    let keeps = c.at_root.ensures.reads.keeps in
    let shape = c.at_root.ensures.reads.shape in
    let shown : Shows b self row = record {
      nodes = nodes_moved a b self.geometry.fanout row self.nodes keeps shape h.shown.nodes;
      kept = c.kept_nodes_stay.ensures a.holds b.holds self.cache (λ place node there. keeps.holds place.0) h.shown.kept;
    } in
    IsCommitRunning-beside a b kept given begun self self row shape (WorksBeside-keeps a b (given ++ kept) keeps) refl shown h

pub returns-in_ok-index-in-OnMedium-clause-shown : goal.returns-in_ok-index-in-OnMedium-clause-shown
returns-in_ok-index-in-OnMedium-clause-shown g c = λ row h.
    let a = g.V.Volume.state c.args.volume.now in
    let b = g.V.Volume.state c.at_root.new.volume in
    let self = c.args.self.now in
    let made = c.in_ok-index-in-OnMedium.ensures in
    let own = nodes_as a self.geometry.fanout row self.nodes (OnMedium c.in-OnMedium.root) c.in-OnMedium.is h.nodes in
    record {
      nodes = (own.1 ∙ sym (c.freeze.ensures.tree ∙ made.loaded own.0 own.2), c.freeze.ensures.fanout ∙ made.fanout, index_as b c.in_ok-index-in-OnMedium.index c.freeze.new.self c.freeze.ensures.nodes c.freeze.ensures.seen made.stands);
      kept = c.kept_nodes_stay.ensures a.holds b.holds self.cache (λ place node there. c.at_root.ensures.reads.keeps.holds place.0) h.kept;
    }

pub returns-in_ok-index-in-OnMedium-clause-running : goal.returns-in_ok-index-in-OnMedium-clause-running
returns-in_ok-index-in-OnMedium-clause-running g c = λ kept given begun row h.
    let a = g.V.Volume.state c.args.volume.now in
    let b = g.V.Volume.state c.at_root.new.volume in
    let self = c.args.self.now in
    let f = self.geometry.fanout in
    loaded_running c.places_are_kept.ensures.none a b kept given begun self row c.in-OnMedium.root c.in_ok-index-in-OnMedium.index c.freeze.new.self self.cache c.in-OnMedium.is c.at_root.ensures.reads.keeps
    c.in_ok-index-in-OnMedium.ensures.loaded (c.freeze.ensures.fanout ∙ c.in_ok-index-in-OnMedium.ensures.fanout) c.freeze.ensures.frozen c.freeze.ensures.tree
    (index_as b c.in_ok-index-in-OnMedium.index c.freeze.new.self c.freeze.ensures.nodes c.freeze.ensures.seen c.in_ok-index-in-OnMedium.ensures.stands) (c.kept_nodes_stay.ensures a.holds b.holds self.cache (λ place node there. c.at_root.ensures.reads.keeps.holds place.0) h.shown.kept) c.at_root.ensures.reads.shape h
