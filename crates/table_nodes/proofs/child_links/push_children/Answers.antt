use Rattle.std.proofs.Common.{◌≡◌, List, false, length, refl, ap, sym, ◌∙◌, subst}
use Rattle.std.specs.Prelude.{Some, OnOk, slice_get}
use Rattle.index_media.specs.KeyedRow.{KeyedRow, no_more}
use Rattle.table_nodes.specs.Links.{row_before, AreLinksIn}
use Rattle.table_nodes.specs.NodeView.{children_in, node_views}
use Rattle.table_nodes.specs.Sound.{AreSoundViews}
use Rattle.table_nodes.specs.StubLaws.{opened_none, opened_stub, stub_seen, stub_stands}
use Rattle.table_nodes.specs.Stubs.{is_stub}
use Rattle.table_nodes.specs.declared.node.TableNode.{TableNode}
use Rattle.table_nodes.proofs.child_links.push_children.Goals as goal

pub push_links-requires : goal.push_links-requires
push_links-requires g c =
    let own = c.requires.sound in
    let is = sym c.as_slice-in-None.ensures.value in
    let S : List TableNode → Type 0 = λ v. AreSoundViews own.0 (node_views v) in
    let L : List TableNode → Type 0 = λ v. AreLinksIn (length v) c.args.links.now.items in
    let N : List TableNode → Type 0 = λ v. (node : TableNode) → slice_get v c.args.number ≡ Some node → is_stub node ≡ false in
    record { sound = (own.0, subst S is own.1); loaded = subst N (c.as_slice.ensures.value ∙ is) c.in-None.ensures.none; there = subst L is c.requires.there }

pub returns-in_ok-push_links-in-None-clause-pushed : goal.returns-in_ok-push_links-in-None-clause-pushed
returns-in_ok-push_links-in-None-clause-pushed g c =
    let old = c.args.links.now.items in
    let new = c.push_links.new.links.items in
    let P : List TableNode → Type 0 = λ v. row_before (node_views v) new no_more ≡ row_before (node_views v) old (children_in (slice_get (node_views v) c.args.number)) in
    subst P c.as_slice-in-None.ensures.value c.in_ok-push_links-in-None.ensures.pushed

pub returns-in_ok-push_links-in-None-clause-there : goal.returns-in_ok-push_links-in-None-clause-there
returns-in_ok-push_links-in-None-clause-there g c =
    let L : List TableNode → Type 0 = λ v. AreLinksIn (length v) c.push_links.new.links.items in
    subst L c.as_slice-in-None.ensures.value c.in_ok-push_links-in-None.ensures.there

pub returns-in_ok-push_links-in-None-clause-opened : goal.returns-in_ok-push_links-in-None-clause-opened
returns-in_ok-push_links-in-None-clause-opened g c = opened_none c.args.nodes.now.items c.args.nodes.now.items refl

pub returns-in_err-push_links-in-None-clause-opened : goal.returns-in_err-push_links-in-None-clause-opened
returns-in_err-push_links-in-None-clause-opened g c = opened_none c.args.nodes.now.items c.args.nodes.now.items refl

pub open_node-requires-clause-lnum : goal.open_node-requires-clause-lnum
open_node-requires-clause-lnum g c =
    let s = g.V.Volume.state c.args.volume.now in
    let own = c.in-Some.ensures.some in
    let row = c.requires.row in
    let P : List TableNode → Type 0 = λ v. slice_get v c.args.number ≡ Some own.0 in
    (stub_stands s c.args.nodes.now.items c.args.number row.0 own.0 c.in-Some.stub (subst P c.as_slice.ensures.value own.1) own.2 row.1).there

pub open_node-requires-clause-stands : goal.open_node-requires-clause-stands
open_node-requires-clause-stands g c =
    let s = g.V.Volume.state c.args.volume.now in
    let own = c.in-Some.ensures.some in
    let row = c.requires.row in
    let P : List TableNode → Type 0 = λ v. slice_get v c.args.number ≡ Some own.0 in
    (stub_stands s c.args.nodes.now.items c.args.number row.0 own.0 c.in-Some.stub (subst P c.as_slice.ensures.value own.1) own.2 row.1).stands

pub returns-in-Some-clause-pushed : goal.returns-in-Some-clause-pushed
returns-in-Some-clause-pushed g c =
    let own = c.in-Some.ensures.some in
    let old = c.args.nodes.now.items in
    let P : List TableNode → Type 0 = λ v. slice_get v c.args.number ≡ Some own.0 in
    let seen = ap children_in (stub_seen old c.args.number own.0 c.in-Some.stub (subst P c.as_slice.ensures.value own.1) own.2) in
    let Q : KeyedRow → Type 0 = λ r. OnOk c.open_node.result (row_before (node_views c.open_node.new.nodes.items) c.open_node.new.links.items no_more ≡ row_before (node_views old) c.args.links.now.items r) in
    subst Q (sym seen) c.open_node.ensures.opened

pub returns-in-Some-clause-opened : goal.returns-in-Some-clause-opened
returns-in-Some-clause-opened g c =
    let own = c.in-Some.ensures.some in
    let P : List TableNode → Type 0 = λ v. slice_get v c.args.number ≡ Some own.0 in
    opened_stub c.args.nodes.now.items c.open_node.new.nodes.items c.args.number own.0 c.in-Some.stub (subst P c.as_slice.ensures.value own.1) own.2 c.open_node.ensures.stubs
