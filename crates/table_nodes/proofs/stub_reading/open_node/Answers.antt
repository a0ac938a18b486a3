use Rattle.std.proofs.Common.{List, ◌∙◌, ap, refl, subst}
use Rattle.index_media.specs.KeyedRow.{all_clean}
use Rattle.media_sys.specs.Index.{Index}
use Rattle.media_sys.specs.declared.branch.Branch.{Branch}
use Rattle.rows_below.specs.RowBelow.{row_by}
use Rattle.table_nodes.specs.Beyond.{contents_told}
use Rattle.table_nodes.specs.NodeView.{node_views}
use Rattle.table_nodes.specs.Links.{row_before}
use Rattle.table_nodes.specs.StubLaws.{stubs_none}
use Rattle.table_nodes.specs.Stubs.{AreStubs}
use Rattle.table_nodes.proofs.stub_reading.open_node.Goals as goal

pub node-requires-clause-node : goal.node-requires-clause-node
node-requires-clause-node g c = (c.requires.stands.0, c.requires.stands.1)

pub returns-clause-opened : goal.returns-clause-opened
returns-clause-opened g c =
    let own = c.requires.stands in
    let lebs = c.args.told.now.value in
    let said = c.in_ok-node.ensures.said own.0 own.1 in
    let same = c.as_slice.ensures.value ∙ ap (λ (i : Index). i.branches) said ∙ own.2 in
    c.in_ok-open_branches.ensures.opened
    ∙ ap (λ (l : List Branch). row_before (node_views c.args.nodes.now.items) c.args.links.now.items (all_clean (row_by (contents_told lebs) c.args.level l))) same

pub returns-clause-stubs : goal.returns-clause-stubs
returns-clause-stubs g c =
    let own = c.requires.stands in
    let lebs = c.args.told.now.value in
    let said = c.in_ok-node.ensures.said own.0 own.1 in
    let same = c.as_slice.ensures.value ∙ ap (λ (i : Index). i.branches) said ∙ own.2 in
    let P : List Branch → Type 0 = λ l. AreStubs lebs c.args.level l c.args.nodes.now.items c.open_branches.new.nodes.items in
    subst P same c.open_branches.ensures.stubs

pub returns-in_err-node-clause-stubs : goal.returns-in_err-node-clause-stubs
returns-in_err-node-clause-stubs g c = stubs_none c.args.told.now.value c.args.level _ c.args.nodes.now.items c.args.nodes.now.items refl

pub returns-in_err-open_branches-clause-stubs : goal.returns-in_err-open_branches-clause-stubs
returns-in_err-open_branches-clause-stubs g c =
    let own = c.requires.stands in
    let lebs = c.args.told.now.value in
    let said = c.in_ok-node.ensures.said own.0 own.1 in
    let same = c.as_slice.ensures.value ∙ ap (λ (i : Index). i.branches) said ∙ own.2 in
    let P : List Branch → Type 0 = λ l. AreStubs lebs c.args.level l c.args.nodes.now.items c.open_branches.new.nodes.items in
    subst P same c.open_branches.ensures.stubs
