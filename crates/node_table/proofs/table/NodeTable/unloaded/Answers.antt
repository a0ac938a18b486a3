use Rattle.std.proofs.Common.{◌≡◌, List, refl, subst}
use Rattle.std.specs.Prelude.{Some, slice_get}
use Rattle.table_nodes.specs.declared.node.TableNode.{TableNode}
use Rattle.node_table.proofs.table.NodeTable.unloaded.Goals as goal

pub returns-in-Some-clause-some : goal.returns-in-Some-clause-some
returns-in-Some-clause-some c =
    let own = c.in-Some.ensures.some in
    let P : List TableNode → Type 0 = λ v. slice_get v c.args.number ≡ Some own.0 in
    record { node = own.0; there = subst P c.as_slice.ensures.value own.1; stub = c.in-Some.stub; is = own.2; branch = refl; level = refl }
