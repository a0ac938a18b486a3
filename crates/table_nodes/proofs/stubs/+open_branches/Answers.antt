use Rattle.std.proofs.Common.{◌≡◌, refl, subst}
use Rattle.std.specs.Prelude.{OnOk}
use Rattle.index_media.specs.KeyedRow.{KeyedRow, no_more}
use Rattle.table_nodes.specs.NodeView.{node_views}
use Rattle.table_nodes.specs.Links.{row_before}
use Rattle.table_nodes.proofs.Unloaded.{none_left, one_more}
use Rattle.table_nodes.specs.StubLaws.{stubs_both, stubs_none}
use Rattle.table_nodes.proofs.stubs.+open_branches.Goals as goal

pub returns-in-None-clause-opened : goal.returns-in-None-clause-opened
returns-in-None-clause-opened t c = none_left c.args.told.now.value c.args.levels c.args.nodes.now.items c.args.links.now.items c.args.branches.now c.in-None.ensures.cases

pub returns-in_ok-push_child-in-Some-clause-opened : goal.returns-in_ok-push_child-in-Some-clause-opened
returns-in_ok-push_child-in-Some-clause-opened t c =
    let mid = c.push_child.new.nodes.items in
    let P : KeyedRow → Type 0 = λ r. OnOk c.open_branches.result (row_before (node_views c.open_branches.new.nodes.items) c.open_branches.new.links.items no_more ≡ r) in
    subst P
    (one_more c.args.told.now.value c.args.levels c.args.nodes.now.items mid c.args.links.now.items c.push_child.new.links.items c.args.branches.now c.in-Some.rest.now c.in-Some.branch.now c.in-Some.ensures.cases.0 c.in_ok-push_child-in-Some.ensures.pushed)
    c.open_branches.ensures.opened

pub returns-in-None-clause-stubs : goal.returns-in-None-clause-stubs
returns-in-None-clause-stubs t c = stubs_none c.args.told.now.value c.args.levels c.args.branches.now c.args.nodes.now.items c.args.nodes.now.items refl

pub returns-in_ok-push_child-in-Some-clause-stubs : goal.returns-in_ok-push_child-in-Some-clause-stubs
returns-in_ok-push_child-in-Some-clause-stubs t c =
    stubs_both c.args.told.now.value c.args.levels c.in-Some.branch.now c.in-Some.rest.now c.args.branches.now c.args.nodes.now.items c.push_child.new.nodes.items c.open_branches.new.nodes.items c.in-Some.ensures.cases.0
    c.push_child.ensures.stubs c.open_branches.ensures.stubs
