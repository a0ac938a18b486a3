use Rattle.std.proofs.Common.{◌≡◌, ◌++◌, ◌∙◌, ℕ, List, sym, subst}
use Rattle.std.specs.Prelude.{Option}
use Rattle.node_table.specs.Unloaded.{DoesRootStand}
use Rattle.node_table.specs.declared.change.Change.TheVariants.{Insert}
use Rattle.table_nodes.specs.declared.node.Root.{Root}
use Rattle.table_nodes.specs.declared.node.TableNode.{TableNode}
use Rattle.ubi_volume.specs.Volume.{ChangeUnderWay, filled}
use Rattle.index_cache.specs.Paged.{fanout_of, keyed_tree_of}
use Rattle.commit_steps.specs.UnderWayLaws.{WorksBeside-keeps, WorksBeside-none, commit_beside, index_changed, seen_beside, seen_changed}
use Rattle.commit_steps.proofs.Steps.{change_seen, put_beside, put_stands}
use Rattle.commit_steps.proofs.client.put_leaf.Goals as goal

pub returns-in_err-cache-clause-beside : goal.returns-in_err-cache-clause-beside
returns-in_err-cache-clause-beside g c = λ lebs apart. WorksBeside-none (g.V.Volume.state c.args.volume.now) lebs

pub returns-in_err-staged-clause-beside : goal.returns-in_err-staged-clause-beside
returns-in_err-staged-clause-beside g c = λ lebs apart. WorksBeside-keeps (g.V.Volume.state c.args.volume.now) (g.V.Volume.state c.stage.new.volume) lebs c.stage.ensures.reads.keeps

pub returns-in_err-change-clause-beside : goal.returns-in_err-change-clause-beside
returns-in_err-change-clause-beside g c = λ lebs apart.
    let s = g.V.Volume.state c.stage.new.volume in
    put_beside (g.V.Volume.state c.args.volume.now) s (g.V.Volume.state c.change.new.self) c.args.bud (ChangeUnderWay s c.args.bud c.args.node.now) lebs apart c.stage.ensures.reads.keeps c.change.ensures.works

pub returns-clause-beside : goal.returns-clause-beside
returns-clause-beside g c = λ lebs apart.
    let s = g.V.Volume.state c.stage.new.volume in
    put_beside (g.V.Volume.state c.args.volume.now) s (g.V.Volume.state c.change.new.self) c.args.bud (ChangeUnderWay s c.args.bud c.args.node.now) lebs apart c.stage.ensures.reads.keeps c.change.ensures.works

pub returns-clause-kept : goal.returns-clause-kept
returns-clause-kept g c = λ kept given apart way.
    let a = g.V.Volume.state c.args.volume.now in
    let s = g.V.Volume.state c.stage.new.volume in
    let b = g.V.Volume.state c.change.new.self in
    let old = c.args.index.now in
    let new = c.adopt.new.self in
    let beside = put_beside a s b c.args.bud (ChangeUnderWay s c.args.bud c.args.node.now) (given ++ kept) apart c.stage.ensures.reads.keeps c.change.ensures.works in
    index_changed b kept given old new
    (change_seen b.holds (keyed_tree_of old) (keyed_tree_of new) (c.adopt.ensures.tree ∙ c.in_ok-staged.ensures.made)
    (λ others. c.changes_keep_what_stands.ensures.changed (fanout_of old) (Insert c.args.leaf) b.holds others (keyed_tree_of old) c.trees_are_sound.ensures.fits))
    (c.adopt.ensures.keeps.frozen_tree ∙ c.stage.ensures.keeps.frozen_tree) (commit_beside a b kept given old beside way)

pub returns-clause-seen : goal.returns-clause-seen
returns-clause-seen g c = λ lebs apart seen.
    let a = g.V.Volume.state c.args.volume.now in
    let s = g.V.Volume.state c.stage.new.volume in
    let b = g.V.Volume.state c.change.new.self in
    let old = c.args.index.now in
    let new = c.adopt.new.self in
    let beside = put_beside a s b c.args.bud (ChangeUnderWay s c.args.bud c.args.node.now) lebs apart c.stage.ensures.reads.keeps c.change.ensures.works in
    seen_changed b lebs old new
    (change_seen b.holds (keyed_tree_of old) (keyed_tree_of new) (c.adopt.ensures.tree ∙ c.in_ok-staged.ensures.made)
    (λ others. c.changes_keep_what_stands.ensures.changed (fanout_of old) (Insert c.args.leaf) b.holds others (keyed_tree_of old) c.trees_are_sound.ensures.fits))
    (seen_beside a b lebs old beside seen)

pub returns-clause-stands : goal.returns-clause-stands
returns-clause-stands g c = λ lebs apart within.
    let a = g.V.Volume.state c.args.volume.now in
    let s = g.V.Volume.state c.stage.new.volume in
    let b = g.V.Volume.state c.change.new.self in
    let old = c.args.index.now in
    let new = c.adopt.new.self in
    let beside = put_beside a s b c.args.bud (ChangeUnderWay s c.args.bud c.args.node.now) lebs apart c.stage.ensures.reads.keeps c.change.ensures.works in
    let N : List TableNode → Type 0 = λ ns. DoesRootStand s ns new.root in
    let R : Option Root → Type 0 = λ r. DoesRootStand s c.stage.new.self.table.nodes.items r in
    put_stands a s b lebs old new beside c.in_ok-change.ensures.shape within
    (change_seen b.holds (keyed_tree_of old) (keyed_tree_of new) (c.adopt.ensures.tree ∙ c.in_ok-staged.ensures.made)
    (λ others. c.changes_keep_what_stands.ensures.changed (fanout_of old) (Insert c.args.leaf) b.holds others (keyed_tree_of old) c.trees_are_sound.ensures.fits))
    (subst N (sym c.adopt.ensures.nodes) (subst R (sym c.adopt.ensures.root) c.in_ok-staged.ensures.staged))

pub returns-clause-written : goal.returns-clause-written
returns-clause-written g c =
    let b = g.V.Volume.state c.change.new.self in
    let P : ℕ → Type 0 = λ n. b.holds c.args.bud ≡ filled n c.args.node.now in
    subst P c.stage.ensures.reads.shape.leb_size c.in_ok-change.ensures.done.holds
