use Rattle.std.proofs.Common.{Option, None, Some, ◌≡◌, ap, refl, sym, subst, ◌∙◌}
use Rattle.index_media.specs.KeyedRemoval.{replaced_by_keys}
use Rattle.index_media.specs.KeyedRow.{no_more}
use Rattle.table_nodes.specs.NodeView.{tree_at, IsRootIn}
use Rattle.node_table.specs.Staging.{only_root, IsSoundRoot}
use Rattle.node_table.specs.Unloaded.{DoesRootStand}
use Rattle.table_nodes.specs.declared.node.Root.{Root}
use Rattle.node_table.proofs.Inserted.{tree_kept, sound_kept}
use Rattle.node_table.proofs.Removed.{held_there, option_stands, replaced_none, left_row, replaced_left, option_linked, root_stands_on, sound_by}
use Rattle.node_table.proofs.table.NodeTable.replace.Goals as goal

pub returns-then-not-branch-clause-made : goal.returns-then-not-branch-clause-made
returns-then-not-branch-clause-made g c =
    let old = c.args.self.now.nodes.items in
    let now = c.exchange_below.new.self.nodes.items in
    let top = c.in-Some.top in
    let leaf = c.args.leaf.now in
    let R : Option Root → Type 0 = λ r. IsRootIn old r in
    let T : Option Root → Type 0 = λ r. tree_at now (Some top) ≡ replaced_by_keys leaf c.args.new (tree_at old r) in
    subst T (sym c.in-Some.is)
    (tree_kept old now (Some top) c.exchange_below.ensures.added (subst R c.in-Some.is c.requires.root.there)
    ∙ replaced_none old top leaf c.args.new (sym c.in_ok-exchange_below-in-Some.ensures.found ∙ c.if-not-branch.true))

pub returns-then-not-branch-clause-root : goal.returns-then-not-branch-clause-root
returns-then-not-branch-clause-root g c =
    let old = c.args.self.now.nodes.items in
    let R : Option Root → Type 0 = λ r. IsSoundRoot old r in
    sound_kept old c.exchange_below.new.self.nodes.items (Some c.in-Some.top) c.exchange_below.ensures.added (subst R c.in-Some.is c.requires.root)

pub returns-then-not-branch-clause-stands : goal.returns-then-not-branch-clause-stands
returns-then-not-branch-clause-stands g c =
    let a = g.V.Volume.state c.args.volume.now in
    let b = g.V.Volume.state c.exchange_below.new.volume in
    let old = c.args.self.now.nodes.items in
    let reads = c.exchange_below.ensures.reads in
    let P : Option Root → Type 0 = λ r. DoesRootStand b c.exchange_below.new.self.nodes.items r in
    subst P c.in-Some.is (root_stands_on a b old c.exchange_below.new.self.nodes.items c.args.root reads.keeps reads.shape c.exchange_below.ensures.added c.requires.root.there c.requires.stands)

pub returns-then-not-branch-clause-same : goal.returns-then-not-branch-clause-same
returns-then-not-branch-clause-same g c = λ none. (sym c.in-Some.is, c.in_ok-exchange_below-in-Some.ensures.same c.if-not-branch.true)

pub returns-in-None-clause-same : goal.returns-in-None-clause-same
returns-in-None-clause-same g c = λ none. (sym c.in-None.is, refl)

pub returns-else-not-branch-clause-same : goal.returns-else-not-branch-clause-same
returns-else-not-branch-clause-same g c = λ none.
    absurd (held_there c.args.self.now.nodes.items c.args.root c.in-Some.top c.args.leaf.now c.in-Some.is (sym c.in_ok-exchange_below-in-Some.ensures.found ∙ c.if-not-branch.false) none)

pub returns-else-not-branch-clause-made : goal.returns-else-not-branch-clause-made
returns-else-not-branch-clause-made g c =
    let old = c.args.self.now.nodes.items in
    let now = c.exchange_below.new.self.nodes.items in
    let top = c.in-Some.top in
    let leaf = c.args.leaf.now in
    let made = c.exchange_below.new.made.items in
    let held = sym c.in_ok-exchange_below-in-Some.ensures.found ∙ c.if-not-branch.false in
    let row = left_row old now top leaf (Some c.args.new) c.new-made.result.items made c.new-made.ensures.items held (c.in_ok-exchange_below-in-Some.ensures.made no_more) in
    let only = ap only_root (sym c.as_slice.ensures.value) ∙ sym c.only_node.ensures in
    let T : Option Root → Type 0 = λ r. tree_at now c.only_node.result ≡ replaced_by_keys leaf c.args.new (tree_at old r) in
    subst T (sym c.in-Some.is) (replaced_left old now top c.only_node.result leaf c.args.new made held row only)

pub returns-else-not-branch-clause-root : goal.returns-else-not-branch-clause-root
returns-else-not-branch-clause-root g c =
    let old = c.args.self.now.nodes.items in
    let now = c.exchange_below.new.self.nodes.items in
    let top = c.in-Some.top in
    let leaf = c.args.leaf.now in
    let made = c.exchange_below.new.made.items in
    let tree = tree_at old c.args.root in
    let held = sym c.in_ok-exchange_below-in-Some.ensures.found ∙ c.if-not-branch.false in
    let row = left_row old now top leaf (Some c.args.new) c.new-made.result.items made c.new-made.ensures.items held (c.in_ok-exchange_below-in-Some.ensures.made no_more) in
    let only = ap only_root (sym c.as_slice.ensures.value) ∙ sym c.only_node.ensures in
    let T : Option Root → Type 0 = λ r. tree_at now c.only_node.result ≡ replaced_by_keys leaf c.args.new (tree_at old r) in
    let is = subst T (sym c.in-Some.is) (replaced_left old now top c.only_node.result leaf c.args.new made held row only) in
    sound_by now c.only_node.result (replaced_by_keys leaf c.args.new tree) (option_linked now made c.only_node.result c.in_ok-exchange_below-in-Some.ensures.there.there only) is
    (c.a_replacement_leaves_the_keys_of_branches.ensures.keys leaf c.args.new 0 None tree c.requires.key.0 c.requires.root.bounded)
    (c.a_replacement_keeps_what_nodes_are.ensures.keys leaf c.args.new tree c.requires.key.1 c.requires.root.keys)

pub returns-else-not-branch-clause-stands : goal.returns-else-not-branch-clause-stands
returns-else-not-branch-clause-stands g c =
    let b = g.V.Volume.state c.exchange_below.new.volume in
    let only = ap only_root (sym c.as_slice.ensures.value) ∙ sym c.only_node.ensures in
    option_stands b c.exchange_below.new.self.nodes.items c.exchange_below.new.made.items c.only_node.result c.in_ok-exchange_below-in-Some.ensures.there.stand only
