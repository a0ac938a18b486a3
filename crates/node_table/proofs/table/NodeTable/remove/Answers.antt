use Rattle.std.proofs.Common.{Option, None, Some, ◌≡◌, ap, refl, sym, subst, ◌∙◌, length}
use Rattle.index_media.specs.KeyedRow.{no_more}
use Rattle.node_table.specs.Exchange.{tree_without}
use Rattle.table_nodes.specs.LinkLaws.{added_both}
use Rattle.table_nodes.specs.NodeView.{tree_at, IsRootIn}
use Rattle.node_table.specs.Staging.{only_root, IsSoundRoot}
use Rattle.node_table.specs.Unloaded.{DoesRootStand}
use Rattle.table_nodes.specs.declared.node.Root.{Root}
use Rattle.node_table.proofs.Changed.{reads_both, reads_failed}
use Rattle.node_table.proofs.Inserted.{tree_kept, sound_kept}
use Rattle.node_table.proofs.Removed.{held_there, only_linked, option_stands, root_stands_on, without_none, left_row, none_left, one_left, sound_by, without_sound}
use Rattle.node_table.proofs.table.NodeTable.remove.Goals as goal

pub returns-then-not-branch-clause-made : goal.returns-then-not-branch-clause-made
returns-then-not-branch-clause-made g c =
    let old = c.args.self.now.nodes.items in
    let now = c.exchange_below.new.self.nodes.items in
    let top = c.in-Some.top in
    let leaf = c.args.leaf.now in
    let R : Option Root → Type 0 = λ r. IsRootIn old r in
    let T : Option Root → Type 0 = λ r. tree_at now (Some top) ≡ tree_without leaf (tree_at old r) in
    subst T (sym c.in-Some.is)
    (tree_kept old now (Some top) c.exchange_below.ensures.added (subst R c.in-Some.is c.requires.root.there)
    ∙ without_none old top leaf (sym c.in_ok-exchange_below-in-Some.ensures.found ∙ c.if-not-branch.true))

pub returns-then-not-branch-clause-root : goal.returns-then-not-branch-clause-root
returns-then-not-branch-clause-root g c =
    let old = c.args.self.now.nodes.items in
    let R : Option Root → Type 0 = λ r. IsSoundRoot old r in
    sound_kept old c.exchange_below.new.self.nodes.items (Some c.in-Some.top) c.exchange_below.ensures.added (subst R c.in-Some.is c.requires.root)

pub returns-then-not-branch-clause-stands : goal.returns-then-not-branch-clause-stands
returns-then-not-branch-clause-stands g c =
    let a = g.V.Volume.state c.args.volume.now in
    let b = g.V.Volume.state c.exchange_below.new.volume in
    let old = c.args.self.now.nodes.items in
    let reads = c.exchange_below.ensures.reads in
    let P : Option Root → Type 0 = λ r. DoesRootStand b c.exchange_below.new.self.nodes.items r in
    subst P c.in-Some.is (root_stands_on a b old c.exchange_below.new.self.nodes.items c.args.root reads.keeps reads.shape c.exchange_below.ensures.added c.requires.root.there c.requires.stands)

pub returns-then-not-branch-clause-same : goal.returns-then-not-branch-clause-same
returns-then-not-branch-clause-same g c = λ none. (sym c.in-Some.is, c.in_ok-exchange_below-in-Some.ensures.same c.if-not-branch.true)

pub returns-in-None-clause-same : goal.returns-in-None-clause-same
returns-in-None-clause-same g c = λ none. (sym c.in-None.is, refl)

pub returns-in-None-only_node-clause-same : goal.returns-in-None-only_node-clause-same
returns-in-None-only_node-clause-same g c = λ none.
    absurd (held_there c.args.self.now.nodes.items c.args.root c.in-Some.top c.args.leaf.now c.in-Some.is (sym c.in_ok-exchange_below-in-Some.ensures.found ∙ c.if-not-branch.false) none)

pub returns-clause-same : goal.returns-clause-same
returns-clause-same g c = λ none.
    absurd (held_there c.args.self.now.nodes.items c.args.root c.in-Some.top c.args.leaf.now c.in-Some.is (sym c.in_ok-exchange_below-in-Some.ensures.found ∙ c.if-not-branch.false) none)

pub returns-in-None-only_node-clause-made : goal.returns-in-None-only_node-clause-made
returns-in-None-only_node-clause-made g c =
    let old = c.args.self.now.nodes.items in
    let now = c.exchange_below.new.self.nodes.items in
    let top = c.in-Some.top in
    let leaf = c.args.leaf.now in
    let made = c.exchange_below.new.made.items in
    let held = sym c.in_ok-exchange_below-in-Some.ensures.found ∙ c.if-not-branch.false in
    let row = left_row old now top leaf None c.new-made.result.items made c.new-made.ensures.items held (c.in_ok-exchange_below-in-Some.ensures.made no_more) in
    let only = ap only_root (sym c.as_slice.ensures.value) ∙ sym c.in-None-only_node.ensures in
    let T : Option Root → Type 0 = λ r. no_more ≡ tree_without leaf (tree_at old r) in
    subst T (sym c.in-Some.is) (none_left old now top leaf made held row only)

pub sink_root-requires-clause-there : goal.sink_root-requires-clause-there
sink_root-requires-clause-there g c =
    let only = ap only_root (sym c.as_slice.ensures.value) ∙ sym c.in-Some-only_node.ensures in
    only_linked (length c.exchange_below.new.self.nodes.items) c.exchange_below.new.made.items c.in-Some-only_node.left c.in_ok-exchange_below-in-Some.ensures.there.there only

pub sink_root-requires-clause-stands : goal.sink_root-requires-clause-stands
sink_root-requires-clause-stands g c =
    let b = g.V.Volume.state c.exchange_below.new.volume in
    let only = ap only_root (sym c.as_slice.ensures.value) ∙ sym c.in-Some-only_node.ensures in
    option_stands b c.exchange_below.new.self.nodes.items c.exchange_below.new.made.items (Some c.in-Some-only_node.left) c.in_ok-exchange_below-in-Some.ensures.there.stand only

pub returns-clause-made : goal.returns-clause-made
returns-clause-made g c =
    let old = c.args.self.now.nodes.items in
    let now = c.exchange_below.new.self.nodes.items in
    let last = c.sink_root.new.self.nodes.items in
    let top = c.in-Some.top in
    let leaf = c.args.leaf.now in
    let made = c.exchange_below.new.made.items in
    let held = sym c.in_ok-exchange_below-in-Some.ensures.found ∙ c.if-not-branch.false in
    let row = left_row old now top leaf None c.new-made.result.items made c.new-made.ensures.items held (c.in_ok-exchange_below-in-Some.ensures.made no_more) in
    let only = ap only_root (sym c.as_slice.ensures.value) ∙ sym c.in-Some-only_node.ensures in
    let T : Option Root → Type 0 = λ r. tree_at last (Some c.in_ok-sunk-in-Some-only_node.sunk) ≡ tree_without leaf (tree_at old r) in
    subst T (sym c.in-Some.is) (one_left old now last top c.in-Some-only_node.left c.in_ok-sunk-in-Some-only_node.sunk leaf made held row only c.in_ok-sunk-in-Some-only_node.ensures.made)

pub returns-clause-root : goal.returns-clause-root
returns-clause-root g c =
    let old = c.args.self.now.nodes.items in
    let now = c.exchange_below.new.self.nodes.items in
    let last = c.sink_root.new.self.nodes.items in
    let top = c.in-Some.top in
    let leaf = c.args.leaf.now in
    let made = c.exchange_below.new.made.items in
    let tree = tree_at old c.args.root in
    let held = sym c.in_ok-exchange_below-in-Some.ensures.found ∙ c.if-not-branch.false in
    let row = left_row old now top leaf None c.new-made.result.items made c.new-made.ensures.items held (c.in_ok-exchange_below-in-Some.ensures.made no_more) in
    let only = ap only_root (sym c.as_slice.ensures.value) ∙ sym c.in-Some-only_node.ensures in
    let T : Option Root → Type 0 = λ r. tree_at last (Some c.in_ok-sunk-in-Some-only_node.sunk) ≡ tree_without leaf (tree_at old r) in
    let is = subst T (sym c.in-Some.is) (one_left old now last top c.in-Some-only_node.left c.in_ok-sunk-in-Some-only_node.sunk leaf made held row only c.in_ok-sunk-in-Some-only_node.ensures.made) in
    let sound = without_sound leaf tree c.requires.root.bounded c.requires.root.keys
    (c.a_removal_leaves_the_keys_of_branches.ensures.keys leaf tree c.requires.root.bounded) (c.a_removal_keeps_what_nodes_are.ensures.whole leaf tree c.requires.root.keys) in
    sound_by last (Some c.in_ok-sunk-in-Some-only_node.sunk) (tree_without leaf tree) c.in_ok-sunk-in-Some-only_node.ensures.there is sound.0 sound.1

pub returns-in_err-sunk-in-Some-only_node-clause-added : goal.returns-in_err-sunk-in-Some-only_node-clause-added
returns-in_err-sunk-in-Some-only_node-clause-added g c = added_both c.args.self.now.nodes.items c.exchange_below.new.self.nodes.items c.sink_root.new.self.nodes.items c.in_ok-exchange_below-in-Some.ensures.added c.sink_root.ensures.added

pub returns-in_err-sunk-in-Some-only_node-clause-fanout : goal.returns-in_err-sunk-in-Some-only_node-clause-fanout
returns-in_err-sunk-in-Some-only_node-clause-fanout g c = c.sink_root.ensures.fanout ∙ c.in_ok-exchange_below-in-Some.ensures.fanout

pub returns-in_err-sunk-in-Some-only_node-clause-reads : goal.returns-in_err-sunk-in-Some-only_node-clause-reads
returns-in_err-sunk-in-Some-only_node-clause-reads g c =
    let a = g.V.Volume.state c.args.volume.now in
    let b = g.V.Volume.state c.exchange_below.new.volume in
    let d = g.V.Volume.state c.sink_root.new.volume in
    reads_failed a b d _ c.in_err-sunk-in-Some-only_node.field-0.0 c.from_residual-in_err-sunk-in-Some-only_node.result c.from_residual-in_err-sunk-in-Some-only_node.ensures.1 c.in_ok-exchange_below-in-Some.ensures.reads c.in_err-sunk-in-Some-only_node.ensures.reads

pub returns-clause-added : goal.returns-clause-added
returns-clause-added g c = added_both c.args.self.now.nodes.items c.exchange_below.new.self.nodes.items c.sink_root.new.self.nodes.items c.in_ok-exchange_below-in-Some.ensures.added c.sink_root.ensures.added

pub returns-clause-fanout : goal.returns-clause-fanout
returns-clause-fanout g c = c.sink_root.ensures.fanout ∙ c.in_ok-exchange_below-in-Some.ensures.fanout

pub returns-clause-reads : goal.returns-clause-reads
returns-clause-reads g c =
    let a = g.V.Volume.state c.args.volume.now in
    let b = g.V.Volume.state c.exchange_below.new.volume in
    let d = g.V.Volume.state c.sink_root.new.volume in
    reads_both a b d _ c.in_ok-sunk-in-Some-only_node.sunk _ c.in_ok-exchange_below-in-Some.ensures.reads c.in_ok-sunk-in-Some-only_node.ensures.reads
