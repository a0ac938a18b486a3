use Rattle.std.proofs.Common.{rules, ◌≡◌, ap, sym, ◌∙◌, subst}
use Rattle.ubifs_base.specs.declared.geometry.Geometry.{Geometry}
use Rattle.index_cache.specs.Paged.{fanout_of, keyed_tree_of}
use Rattle.index_commit.specs.Standing.{AreOutside}
use Rattle.index_media.specs.KeyedRow.{KeyedRow}
use Rattle.node_table.specs.Changing.{changed_by}
use Rattle.mounted_index.specs.Shown.{StandsIn}
use Rattle.mounted_index.specs.declared.mounted.IndexNodes.TheVariants.{InMemory}
use Rattle.mounted_index.proofs.Shown.{index_stands, made_there, nodes_as, staged_row}
use Rattle.mounted_index.proofs.Running.{staged_running}
use Rattle.mounted_index.proofs.Standing.{ChangesFit, IsFitRow, all_outside, all_stand, one_at, stands_kept}
use Rattle.mounted_index.proofs.mounted.MountedIndex.stage.Goals as goal

pub returns-in_err-load-clause-staged : goal.returns-in_err-load-clause-staged
returns-in_err-load-clause-staged g c = λ row h. record { shown = c.load.ensures.shown row h; staged = search rules; stands = λ kept stands. search rules; outside = search rules }

pub returns-in_err-staged-in-InMemory-clause-staged : goal.returns-in_err-staged-in-InMemory-clause-staged
returns-in_err-staged-in-InMemory-clause-staged g c = λ row h.
    let b = g.V.Volume.state c.load.new.volume in
    let loaded = c.load.new.self in
    let index = c.in-InMemory.index in
    let s = c.load.ensures.shown row h in
    let own = nodes_as b loaded.geometry.fanout row loaded.nodes (InMemory index) c.in-InMemory.is s.nodes in
    record {
      shown = record { nodes = (own.0 ∙ sym c.stage.ensures.tree, c.stage.ensures.keeps.fanout ∙ own.1, c.stage.ensures.stands); kept = c.stage.ensures.kept };
      staged = search rules;
      stands = λ kept stands. search rules;
      outside = search rules;
    }

pub returns-in_ok-staged-in-InMemory-clause-staged : goal.returns-in_ok-staged-in-InMemory-clause-staged
returns-in_ok-staged-in-InMemory-clause-staged g c = λ row h.
    let a = g.V.Volume.state c.args.volume.now in
    let b = g.V.Volume.state c.load.new.volume in
    let d = g.V.Volume.state c.stage.new.volume in
    let loaded = c.load.new.self in
    let f = c.args.self.now.geometry.fanout in
    let changes = c.args.changes.now in
    let index = c.in-InMemory.index in
    let new = c.stage.new.self in
    let s = c.load.ensures.shown row h in
    let own = nodes_as b loaded.geometry.fanout row loaded.nodes (InMemory index) c.in-InMemory.is s.nodes in
    let same : loaded.geometry.fanout ≡ f = ap (λ (geo : Geometry). geo.fanout) c.load.ensures.geometry in
    let sound = c.trees_are_sound.ensures in
    let laws : ChangesFit = record {
      removed = c.a_removal_keeps_what_nodes_are.ensures.children;
      removed_number = c.a_removal_keeps_what_nodes_are.ensures.number;
      replaced = c.a_replacement_keeps_what_nodes_are.ensures.children;
      replaced_number = c.a_replacement_keeps_what_nodes_are.ensures.number;
      pruned = c.a_range_removal_keeps_what_nodes_are.ensures.children;
      pruned_number = c.a_range_removal_keeps_what_nodes_are.ensures.number;
    } in
    record {
      shown = record { nodes = (own.0 ∙ sym c.stage.ensures.tree, c.stage.ensures.keeps.fanout ∙ own.1, c.stage.ensures.stands); kept = c.stage.ensures.kept };
      staged = record {
        nodes = staged_row d f loaded.geometry.fanout row changes index new c.in_ok-staged-in-InMemory.staged same own.0 own.1 c.in_ok-staged-in-InMemory.ensures.made c.stage.ensures.keeps.fanout c.in_ok-staged-in-InMemory.ensures.root
            c.in_ok-staged-in-InMemory.ensures.staged;
        kept = c.stage.ensures.kept;
      };
      stands = λ kept stands.
          let S : KeyedRow → Type 0 = λ r. StandsIn a kept r in
          let M : KeyedRow → Type 0 = λ r. StandsIn d kept r in
          let fit : IsFitRow (fanout_of index) (keyed_tree_of index) = record { sound = sound.fits; one = one_at index.table.nodes.items index.root } in
          let after = all_stand c.changes_keep_what_stands.ensures.changed laws a kept (fanout_of index) changes (keyed_tree_of index) sound.least fit (subst S own.0 stands) in
          subst M (sym (made_there f loaded.geometry.fanout row changes index same own.0 own.1)) (stands_kept b d kept (changed_by (fanout_of index) changes (keyed_tree_of index)) c.stage.ensures.reads.keeps c.stage.ensures.reads.shape
          (stands_kept a b kept (changed_by (fanout_of index) changes (keyed_tree_of index)) c.load.ensures.reads.keeps c.load.ensures.reads.shape after));
      outside = λ contents others out.
          let O : KeyedRow → Type 0 = λ r. AreOutside contents others r in
          let fit : IsFitRow (fanout_of index) (keyed_tree_of index) = record { sound = sound.fits; one = one_at index.table.nodes.items index.root } in
          subst O (sym (made_there f loaded.geometry.fanout row changes index same own.0 own.1)) (all_outside c.changes_keep_what_stands.ensures.changed laws (fanout_of index) changes contents others (keyed_tree_of index) sound.least fit (subst O own.0 out));
    }

pub returns-in_err-load-clause-running : goal.returns-in_err-load-clause-running
returns-in_err-load-clause-running g c = c.load.ensures.running

pub returns-in_err-staged-in-InMemory-clause-running : goal.returns-in_err-staged-in-InMemory-clause-running
returns-in_err-staged-in-InMemory-clause-running g c = λ kept given begun row h.
    let b = g.V.Volume.state c.load.new.volume in
    let d = g.V.Volume.state c.stage.new.volume in
    let reads = c.stage.ensures.reads in
    staged_running b d kept given begun c.load.new.self row c.in-InMemory.index c.stage.new.self c.stage.new.cache c.in-InMemory.is c.stage.ensures.keeps c.stage.ensures.tree reads.keeps reads.shape c.stage.ensures.stands c.stage.ensures.kept
    (c.load.ensures.running kept given begun row h)

pub returns-in_ok-staged-in-InMemory-clause-running : goal.returns-in_ok-staged-in-InMemory-clause-running
returns-in_ok-staged-in-InMemory-clause-running g c = λ kept given begun row h.
    let b = g.V.Volume.state c.load.new.volume in
    let d = g.V.Volume.state c.stage.new.volume in
    let reads = c.stage.ensures.reads in
    staged_running b d kept given begun c.load.new.self row c.in-InMemory.index c.stage.new.self c.stage.new.cache c.in-InMemory.is c.stage.ensures.keeps c.stage.ensures.tree reads.keeps reads.shape c.stage.ensures.stands c.stage.ensures.kept
    (c.load.ensures.running kept given begun row h)

pub stage-requires-clause-stands : goal.stage-requires-clause-stands
stage-requires-clause-stands g c =
    let own = c.requires.shown in
    index_stands (g.V.Volume.state c.load.new.volume) c.load.new.self own.0 c.in-InMemory.index c.in-InMemory.is (c.load.ensures.shown own.0 own.1)

pub stage-requires-clause-kept : goal.stage-requires-clause-kept
stage-requires-clause-kept g c = let own = c.requires.shown in (c.load.ensures.shown own.0 own.1).kept
