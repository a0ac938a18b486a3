use Rattle.std.proofs.Common.{ℕ, Option, ◌≡◌, ◌+◌, sym, subst}
use Rattle.table_nodes.specs.NodeView.{tree_at}
use Rattle.node_table.specs.Staging.{IsSoundRoot, IsTopRow}
use Rattle.table_nodes.specs.declared.node.Root.{Root}
use Rattle.node_table.proofs.Rooted.{none_row, top_row, ok_to}
use Rattle.node_table.proofs.table.NodeTable.level_above.Goals as goal

pub returns-in-None : goal.returns-in-None
returns-in-None c = subst (λ r. IsTopRow c.args.self.now.fanout 0 (tree_at c.args.self.now.nodes.items r)) (sym c.in-None.is) (none_row c.args.self.now.fanout c.args.self.now.nodes.items)

pub returns-in-Some-node_at : goal.returns-in-Some-node_at
returns-in-Some-node_at c =
    let f = c.args.self.now.fanout in
    let nodes = c.args.self.now.nodes.items in
    let level = c.in-Some-node_at.node.now.level in
    let R : Option Root → Type 0 = λ r. IsSoundRoot nodes r in
    let T : Option Root → Type 0 = λ r. IsTopRow f (level + 1) (tree_at nodes r) in
    let row = subst T (sym c.in-Some.is) (top_row f nodes c.in-Some.top c.in-Some-node_at.node.now c.args.self.now.sound (subst R c.in-Some.is c.requires.root) c.in-Some-node_at.ensures.some) in
    let N : ℕ → Type 0 = λ n. IsTopRow f n (tree_at nodes c.args.root) in
    ok_to (λ n. n ≡ level + 1) N (λ n e. subst N (sym e) row) c.level_over.result c.level_over.ensures
