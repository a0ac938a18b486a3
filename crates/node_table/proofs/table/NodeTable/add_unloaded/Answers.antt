use Rattle.std.proofs.Common.{refl}
use Rattle.std.specs.Prelude.{Some}
use Rattle.table_nodes.specs.Beyond.{place_by}
use Rattle.table_nodes.specs.declared.node.TableNode.{TableNode}
use Rattle.node_table.proofs.StubAdded.{stub_clean, stub_linked, stub_sound, stub_standing}
use Rattle.node_table.proofs.table.NodeTable.add_unloaded.Goals as goal

pub add-requires-clause-sound : goal.add-requires-clause-sound
add-requires-clause-sound g c =
    let own = c.requires.row in
    let told = c.see_medium-told.result.value in
    stub_sound (g.V.Volume.state c.args.volume.now) c.args.self.now.fanout c.args.level c.args.branch.now own.0 told c.see_medium-told.ensures own.1

pub add-requires-clause-clean : goal.add-requires-clause-clean
add-requires-clause-clean g c =
    let own = c.requires.row in
    let told = c.see_medium-told.result.value in
    stub_clean (g.V.Volume.state c.args.volume.now) c.args.self.now.fanout c.args.level c.args.branch.now own.0 told c.see_medium-told.ensures own.1

pub returns-clause-shown : goal.returns-clause-shown
returns-clause-shown g c = λ row on.
    let s = g.V.Volume.state c.args.volume.now in
    let told = c.see_medium-told.result in
    let branch = c.args.branch.now in
    let node : TableNode = record { level = c.args.level; place = Some (place_by branch); links = c.new.result; beyond = Some told } in
    stub_linked s c.args.self.now.fanout c.args.level branch row c.args.self.now.nodes.items c.add.new.self.nodes.items node c.in_ok-number.number told c.in_ok-number.ensures.added c.in_ok-number.ensures.number
    (record { told = told; beyond = refl; tells = refl; place = refl; level = refl }) c.see_medium-told.ensures on

pub returns-clause-stands : goal.returns-clause-stands
returns-clause-stands g c =
    let s = g.V.Volume.state c.args.volume.now in
    let own = c.requires.row in
    let told = c.see_medium-told.result in
    let branch = c.args.branch.now in
    let node : TableNode = record { level = c.args.level; place = Some (place_by branch); links = c.new.result; beyond = Some told } in
    stub_standing s c.args.self.now.fanout c.args.level branch own.0 c.args.self.now.nodes.items c.add.new.self.nodes.items node c.in_ok-number.number told c.in_ok-number.ensures.added c.in_ok-number.ensures.number
    (record { told = told; beyond = refl; tells = refl; place = refl; level = refl }) c.see_medium-told.ensures own.1
