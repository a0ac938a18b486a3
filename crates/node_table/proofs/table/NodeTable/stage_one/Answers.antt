use Rattle.std.proofs.Common.{Option, ◌≡◌, ap, sym, subst, ◌∙◌}
use Rattle.std.specs.Prelude.{IfOk}
use Rattle.index_tree.specs.Order.{key_rank}
use Rattle.index_tree.specs.Removal.{without}
use Rattle.index_tree.specs.Shape.{contents}
use Rattle.index_media.specs.KeyedRow.{KeyedRow, bare}
use Rattle.node_table.specs.Changing.{leaves_after_change}
use Rattle.node_table.specs.Exchange.{tree_without}
use Rattle.table_nodes.specs.NodeView.{tree_at, leaves_at}
use Rattle.node_table.specs.declared.change.Change.{Change}
use Rattle.table_nodes.specs.declared.node.Root.{Root}
use Rattle.node_table.proofs.Changed.{top_short, without_leaves}
use Rattle.node_table.proofs.Rooted.{ok_to}
use Rattle.node_table.proofs.table.NodeTable.stage_one.Goals as goal

pub returns-in-Remove-clause-leaves : goal.returns-in-Remove-clause-leaves
returns-in-Remove-clause-leaves g c =
    let old = c.args.self.now.nodes.items in
    let now = c.remove.new.self.nodes.items in
    let leaf = c.in-Remove.leaf in
    let tree = tree_at old c.args.root in
    let left = without_leaves leaf tree (c.a_removal_leaves_the_keys_of_branches.ensures.contents leaf tree (top_short old c.args.root)) in
    let P : Option Root → Type 0 = λ made. tree_at now made ≡ tree_without leaf tree in
    let Q : Option Root → Type 0 = λ made. leaves_at now made ≡ without leaf (leaves_at old c.args.root) in
    let C : Change → Type 0 = λ x. IfOk c.remove.result (λ made. leaves_at now made ≡ leaves_after_change x (leaves_at old c.args.root)) in
    subst C (sym c.in-Remove.is) (ok_to P Q (λ made e. ap (λ (r : KeyedRow). contents (bare r)) e ∙ left) c.remove.result c.remove.ensures.made)

pub returns-in_ok-left-in-RemoveRange-clause-leaves : goal.returns-in_ok-left-in-RemoveRange-clause-leaves
returns-in_ok-left-in-RemoveRange-clause-leaves g c =
    let old = c.args.self.now.nodes.items in
    let now = c.remove_range.new.self.nodes.items in
    let from = key_rank c.in-RemoveRange.from in
    let to = key_rank c.in-RemoveRange.to in
    let root = c.in_ok-left-in-RemoveRange.left.root in
    let tree = tree_at old c.args.root in
    let C : Change → Type 0 = λ x. leaves_at now root ≡ leaves_after_change x (leaves_at old c.args.root) in
    subst C (sym c.in-RemoveRange.is)
    (ap (λ (r : KeyedRow). contents (bare r)) c.in_ok-left-in-RemoveRange.ensures.made
    ∙ c.a_range_removal_leaves_the_keys_of_branches.ensures.contents from to tree (top_short old c.args.root))
