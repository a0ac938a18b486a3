use Rattle.std.proofs.Common.{sym, subst, arith}
use Rattle.std.proofs.lemmas.Option.{slice_get_past}
use Rattle.index_tree.specs.Order.{of_rank}
use Rattle.index_tree.specs.Shape.{contents}
use Rattle.index_media.specs.KeyedRow.{bare}
use Rattle.node_cache.specs.Branches.{IsNth}
use Rattle.node_cache.specs.declared.nth.Nth.{Nth}
use Rattle.std.specs.Prelude.{slice_get}
use Rattle.table_nodes.specs.NodeView.{node_views, children_in}
use Rattle.node_table.proofs.table.NodeTable.nth_below.Goals as goal

pub returns-in-Fewer-clause-found : goal.returns-in-Fewer-clause-found
returns-in-Fewer-clause-found g c =
    let xs = of_rank c.args.at (contents (bare (children_in (slice_get (node_views c.args.self.now.nodes.items) c.args.number)))) in
    let P : Nth → Type 0 = λ n. IsNth xs c.args.nth n in
    let few = subst P c.in-Fewer.is c.in_ok-leaf.ensures.found in
    sym (slice_get_past xs c.args.nth (omega (arith, few)))
