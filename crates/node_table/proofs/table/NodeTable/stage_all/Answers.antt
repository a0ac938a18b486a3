use Rattle.std.proofs.Common.{ap, ◌∙◌, Ok}
use Rattle.std.specs.Prelude.{get_or}
use Rattle.ubifs_base.specs.declared.key.Key.TheVariants.{Ino}
use Rattle.node_table.specs.Changing.{changed_row, leaves_after_change}
use Rattle.table_nodes.specs.NodeView.{tree_at, leaves_at}
use Rattle.node_table.specs.declared.change.Change.{Change}
use Rattle.node_table.specs.declared.change.Change.TheVariants.{Insert}
use Rattle.node_table.proofs.Changed.{changed_more, leaves_more, change_at, reads_then}
use Rattle.table_nodes.specs.LinkLaws.{added_both}
use Rattle.node_table.proofs.table.NodeTable.stage_all.Goals as goal

-- what is read where no change is
abbrev none : Change
none = Insert (record { key = Ino 0; lnum = 0; offs = 0; len = 0 })

pub stage_one-requires-clause-change : goal.stage_one-requires-clause-change
stage_one-requires-clause-change g c = change_at c.args.changes.now c.loop-change.change-index none c.requires.changes c.loop-change-test.true

pub loop-change-preserved : goal.loop-change-preserved
loop-change-preserved g c =
    let a = g.V.Volume.state c.args.volume.now in
    let b = g.V.Volume.state c.loop-change.volume in
    let d = g.V.Volume.state c.stage_one.new.volume in
    let old = c.args.self.now.nodes.items in
    let f = c.args.self.now.fanout in
    let i = c.loop-change.change-index in
    let changes = c.args.changes.now in
    let before = c.loop-change.self.nodes.items in
    let change = get_or changes i none in
    record {
      made = c.in_ok-made.ensures.made ∙ ap (λ n. changed_row n change (tree_at before c.loop-change.made)) c.loop-change.invariant.fanout
          ∙ ap (changed_row f change) c.loop-change.invariant.made ∙ changed_more f changes i none (tree_at old c.args.root) c.loop-change-test.true;
      leaves = c.in_ok-made.ensures.leaves ∙ ap (leaves_after_change change) c.loop-change.invariant.leaves ∙ leaves_more changes i none (leaves_at old c.args.root) c.loop-change-test.true;
      root = c.in_ok-made.ensures.root;
      added = added_both old before c.stage_one.new.self.nodes.items c.loop-change.invariant.added c.in_ok-made.ensures.added;
      stands = c.in_ok-made.ensures.stands;
      fanout = c.in_ok-made.ensures.fanout ∙ c.loop-change.invariant.fanout;
      reads = reads_then a b d c.loop-change.made (Ok c.in_ok-made.made) c.loop-change.invariant.reads c.in_ok-made.ensures.reads;
      kept = c.in_ok-made.ensures.kept;
    }
