use Rattle.std.proofs.Common.{Option, Some, ◌≡◌, ap, sym, subst, ◌∙◌, length}
use Rattle.index_tree.specs.Order.{key_rank}
use Rattle.index_media.specs.KeyedRange.{without_range_by_keys}
use Rattle.index_media.specs.KeyedRow.{no_more}
use Rattle.table_nodes.specs.LinkLaws.{added_both}
use Rattle.table_nodes.specs.NodeView.{tree_at}
use Rattle.node_table.specs.Staging.{only_root}
use Rattle.table_nodes.specs.declared.node.Root.{Root}
use Rattle.node_table.proofs.Changed.{reads_both, reads_failed}
use Rattle.node_table.proofs.PrunedRoot.{left_of, all_pruned, some_pruned, none_pruned, by_ranks}
use Rattle.node_table.proofs.Removed.{only_linked, sound_by}
use Rattle.node_table.proofs.Rooted.{only_stands}
use Rattle.node_table.proofs.table.NodeTable.prune_root.Goals as goal

pub returns-in-None-clause-made : goal.returns-in-None-clause-made
returns-in-None-clause-made g c =
    let old = c.args.self.now.nodes.items in
    let from = key_rank c.args.from.now in
    let to = key_rank c.args.to.now in
    let T : Option Root → Type 0 = λ r. no_more ≡ without_range_by_keys from to (tree_at old r) in
    subst T (sym c.in-None.is) (none_pruned from to)

pub returns-in-None-only_node-clause-made : goal.returns-in-None-only_node-clause-made
returns-in-None-only_node-clause-made g c =
    let old = c.args.self.now.nodes.items in
    let now = c.prune_below.new.self.nodes.items in
    let a = c.rank-low.result in
    let b = c.rank-high.result in
    let from = key_rank c.args.from.now in
    let to = key_rank c.args.to.now in
    let top = c.in-Some.top in
    let made = c.prune_below.new.made.items in
    let row = left_of a b old now top c.new-made.result.items made c.new-made.ensures.items (c.in_ok-number-in-Some.ensures.made no_more) in
    let only = ap only_root (sym c.as_slice.ensures.value) ∙ sym c.in-None-only_node.ensures in
    let T : Option Root → Type 0 = λ r. no_more ≡ without_range_by_keys from to (tree_at old r) in
    subst T (sym c.in-Some.is) (by_ranks a b from to no_more (tree_at old (Some top)) c.rank-low.ensures c.rank-high.ensures (all_pruned a b old now top made row only))

pub sink_root-requires-clause-there : goal.sink_root-requires-clause-there
sink_root-requires-clause-there g c =
    let now = c.prune_below.new.self.nodes.items in
    let only = ap only_root (sym c.as_slice.ensures.value) ∙ sym c.in-Some-only_node.ensures in
    only_linked (length now) c.prune_below.new.made.items c.in-Some-only_node.left c.in_ok-number-in-Some.ensures.there.there only

pub sink_root-requires-clause-stands : goal.sink_root-requires-clause-stands
sink_root-requires-clause-stands g c =
    let now = c.prune_below.new.self.nodes.items in
    let only = ap only_root (sym c.as_slice.ensures.value) ∙ sym c.in-Some-only_node.ensures in
    only_stands (g.V.Volume.state c.prune_below.new.volume) now c.prune_below.new.made.items c.in-Some-only_node.left only c.in_ok-number-in-Some.ensures.there.stand

pub returns-clause-made : goal.returns-clause-made
returns-clause-made g c =
    let old = c.args.self.now.nodes.items in
    let now = c.prune_below.new.self.nodes.items in
    let last = c.sink_root.new.self.nodes.items in
    let a = c.rank-low.result in
    let b = c.rank-high.result in
    let from = key_rank c.args.from.now in
    let to = key_rank c.args.to.now in
    let top = c.in-Some.top in
    let made = c.prune_below.new.made.items in
    let row = left_of a b old now top c.new-made.result.items made c.new-made.ensures.items (c.in_ok-number-in-Some.ensures.made no_more) in
    let only = ap only_root (sym c.as_slice.ensures.value) ∙ sym c.in-Some-only_node.ensures in
    let sunk = c.in_ok-sunk-in-Some-only_node.sunk in
    let T : Option Root → Type 0 = λ r. tree_at last (Some sunk) ≡ without_range_by_keys from to (tree_at old r) in
    subst T (sym c.in-Some.is)
    (by_ranks a b from to (tree_at last (Some sunk)) (tree_at old (Some top)) c.rank-low.ensures c.rank-high.ensures
    (some_pruned a b old now last top c.in-Some-only_node.left sunk made row only c.in_ok-sunk-in-Some-only_node.ensures.made))

pub returns-clause-root : goal.returns-clause-root
returns-clause-root g c =
    let from = key_rank c.args.from.now in
    let to = key_rank c.args.to.now in
    let tree = tree_at c.args.self.now.nodes.items c.args.root in
    let sunk = c.in_ok-sunk-in-Some-only_node.sunk in
    sound_by c.sink_root.new.self.nodes.items (Some sunk) (without_range_by_keys from to tree) c.in_ok-sunk-in-Some-only_node.ensures.there (returns-clause-made g c)
    (c.a_range_removal_leaves_the_keys_of_branches.ensures.keys from to tree c.requires.root.bounded)
    (c.a_range_removal_keeps_what_nodes_are.ensures.whole from to tree c.requires.root.keys)

pub returns-in_err-sunk-in-Some-only_node-clause-added : goal.returns-in_err-sunk-in-Some-only_node-clause-added
returns-in_err-sunk-in-Some-only_node-clause-added g c = added_both c.args.self.now.nodes.items c.prune_below.new.self.nodes.items c.sink_root.new.self.nodes.items c.in_ok-number-in-Some.ensures.added c.sink_root.ensures.added

pub returns-in_err-sunk-in-Some-only_node-clause-fanout : goal.returns-in_err-sunk-in-Some-only_node-clause-fanout
returns-in_err-sunk-in-Some-only_node-clause-fanout g c = c.sink_root.ensures.fanout ∙ c.in_ok-number-in-Some.ensures.fanout

pub returns-in_err-sunk-in-Some-only_node-clause-reads : goal.returns-in_err-sunk-in-Some-only_node-clause-reads
returns-in_err-sunk-in-Some-only_node-clause-reads g c =
    let a = g.V.Volume.state c.args.volume.now in
    let b = g.V.Volume.state c.prune_below.new.volume in
    let d = g.V.Volume.state c.sink_root.new.volume in
    reads_failed a b d c.in_ok-number-in-Some.number c.in_err-sunk-in-Some-only_node.field-0.0 c.from_residual-in_err-sunk-in-Some-only_node.result c.from_residual-in_err-sunk-in-Some-only_node.ensures.1 c.in_ok-number-in-Some.ensures.reads c.in_err-sunk-in-Some-only_node.ensures.reads

pub returns-clause-added : goal.returns-clause-added
returns-clause-added g c = added_both c.args.self.now.nodes.items c.prune_below.new.self.nodes.items c.sink_root.new.self.nodes.items c.in_ok-number-in-Some.ensures.added c.sink_root.ensures.added

pub returns-clause-fanout : goal.returns-clause-fanout
returns-clause-fanout g c = c.sink_root.ensures.fanout ∙ c.in_ok-number-in-Some.ensures.fanout

pub returns-clause-reads : goal.returns-clause-reads
returns-clause-reads g c =
    let a = g.V.Volume.state c.args.volume.now in
    let b = g.V.Volume.state c.prune_below.new.volume in
    let d = g.V.Volume.state c.sink_root.new.volume in
    reads_both a b d c.in_ok-number-in-Some.number c.in_ok-sunk-in-Some-only_node.sunk _ c.in_ok-number-in-Some.ensures.reads c.in_ok-sunk-in-Some-only_node.ensures.reads
