use Rattle.std.proofs.Common.{ℕ, List, ◌++◌, refl, sym, ◌∙◌, subst}
use Rattle.std.specs.Prelude.{Some}
use Rattle.index_cache.specs.Paged.{dirty_of, keyed_tree_of}
use Rattle.index_media.specs.KeyedRow.{KeyedRow}
use Rattle.mounted_index.specs.RunningLaws.{StandsIn-running}
use Rattle.mounted_index.specs.Shown.{StandsIn}
use Rattle.mounted_index.specs.ShownLaws.{StandsIn-there}
use Rattle.mounted_index.specs.declared.mounted.IndexNodes.TheVariants.{InMemory}
use Rattle.mounted_index.proofs.Shown.{nodes_as}
use Rattle.mounted_index.proofs.Running.{ended, ended_alone, evicted_dirty, let_go_shown, none_first, some_first, stay_shown, with_nodes}
use Rattle.mounted_index.proofs.mounted.MountedIndex.end_commit.Goals as goal

pub returns-in-OnMedium-clause-ended : goal.returns-in-OnMedium-clause-ended
returns-in-OnMedium-clause-ended g c = λ row begun kept given h.
    ended_alone c.changes_keep_what_stands.ensures.loaded c.places_are_kept.ensures.none (g.V.Volume.state c.args.volume.now) kept given begun c.args.self.now row c.in-OnMedium.root c.in-OnMedium.is h

pub returns-in-OnMedium-clause-gone : goal.returns-in-OnMedium-clause-gone
returns-in-OnMedium-clause-gone g c = λ none. (Some c.in-OnMedium.root, refl)

pub returns-in-None-clause-gone : goal.returns-in-None-clause-gone
returns-in-None-clause-gone g c = λ none. (c.committed_root.result, c.nodes_of.ensures)

pub returns-in-Some-clause-gone : goal.returns-in-Some-clause-gone
returns-in-Some-clause-gone g c = λ none.
    let begun = c.freeze.new.self in
    let left = evicted_dirty c.evict.result begun c.evict.new.self c.evict.ensures.frozen c.evict.ensures.err c.evict.ensures.tree (c.freeze.ensures.root ∙ sym c.freeze.ensures.seen) none in
    absurd (some_first c.next_dirty.result (dirty_of begun) c.in-Some.field-0 c.next_dirty.ensures.first c.in-Some.is left)

pub evict-requires : goal.evict-requires
evict-requires g c =
    let a = g.V.Volume.state c.args.volume.now in
    let self = c.args.self.now in
    let own = c.requires.running in
    let run = own.4 in
    let lebs : List ℕ = own.3 ++ own.2 in
    let here = nodes_as a self.geometry.fanout own.0 self.nodes (InMemory c.in-InMemory.index) c.in-InMemory.is run.shown.nodes in
    let S : KeyedRow → Type 0 = λ r. StandsIn a lebs r in
    record { stands = StandsIn-there a lebs (keyed_tree_of c.freeze.new.self) (subst S (here.0 ∙ sym c.freeze.ensures.tree) (StandsIn-running a own.2 own.3 own.1 self own.0 run)) }

pub committed_root-requires : goal.committed_root-requires
committed_root-requires g c = record { none = none_first c.next_dirty.result (dirty_of c.freeze.new.self) c.next_dirty.ensures.first c.in-None.is }

pub returns-in-None-clause-ended : goal.returns-in-None-clause-ended
returns-in-None-clause-ended g c = λ row begun kept given h.
    let a = g.V.Volume.state c.args.volume.now in
    let self = c.args.self.now in
    let index = c.in-InMemory.index in
    let is = c.in-InMemory.is in
    let first = c.committed_root-root.ensures in
    let last = c.committed_root.ensures in
    let sound = c.trees_are_sound.ensures in
    ended a kept given begun self row index (with_nodes self c.nodes_of.result self.cache) c.committed_root-root.result is first.clean first.root sound.frozen.keys refl
    (let_go_shown a kept given begun self row index c.freeze.new.self c.committed_root.result c.nodes_of.result is c.freeze.ensures.frozen c.freeze.ensures.fanout last.clean last.root sound.seen.keys c.nodes_of.ensures h) h

pub returns-in-Some-clause-ended : goal.returns-in-Some-clause-ended
returns-in-Some-clause-ended g c = λ row begun kept given h.
    let a = g.V.Volume.state c.args.volume.now in
    let self = c.args.self.now in
    let index = c.in-InMemory.index in
    let is = c.in-InMemory.is in
    let final = c.evict.new.self in
    let first = c.committed_root-root.ensures in
    ended a kept given begun self row index (with_nodes self (InMemory final) self.cache) c.committed_root-root.result is first.clean first.root c.trees_are_sound.ensures.frozen.keys refl
    (stay_shown a kept given begun self row index final is (c.evict.ensures.tree ∙ c.freeze.ensures.tree) (c.evict.ensures.fanout ∙ c.freeze.ensures.fanout) c.evict.ensures.stands h) h
