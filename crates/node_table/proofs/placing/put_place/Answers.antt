use Rattle.std.proofs.Common.{ap, sym, ◌∙◌}
use Rattle.std.specs.Prelude.{Some}
use Rattle.std.proofs.lemmas.Option.{slice_get-get_or}
use Rattle.table_nodes.specs.declared.node.TableNode.{TableNode}
use Rattle.node_table.proofs.PlacedTable.{put_there, put_past}
use Rattle.node_table.proofs.placing.put_place.Goals as goal

pub returns-in-Some : goal.returns-in-Some
returns-in-Some c =
    let nodes = c.args.nodes.now.items in
    let n = c.in-Some.node.now in
    let item = c.in-Some.ensures.item in
    put_there nodes c.args.number n c.args.place (slice_get-get_or nodes c.args.number n item.3.0 ∙ ap (λ (x : TableNode). Some x) (sym item.1))

pub returns-in_default : goal.returns-in_default
returns-in_default c = sym (put_past c.args.nodes.now.items c.args.number c.args.place c.in_default.ensures.item.3)
