use Rattle.std.proofs.Common.{◌≡◌, ℕ, List, length, ◌∙◌, ap, sym, subst}
use Rattle.index_media.specs.PlacedRow.{branches_of}
use Rattle.media_sys.specs.Index.{Index}
use Rattle.node_cache.specs.RowsOn.{below}
use Rattle.rows_below.specs.NodeSaid.{node_said_at}
use Rattle.table_nodes.specs.Beyond.{branch_at_place, contents_told, place_by, row_told}
use Rattle.table_nodes.specs.NodeView.{node_views}
use Rattle.table_nodes.specs.Links.{row_before, AreLinksIn}
use Rattle.table_nodes.specs.StubRows.{row_on, said_on, stands_at}
use Rattle.table_nodes.specs.declared.link.Link.{Link}
use Rattle.table_nodes.proofs.stub_client.open_on.Goals as goal

pub open_node-requires-clause-lnum : goal.open_node-requires-clause-lnum
open_node-requires-clause-lnum g c =
    let own = c.requires.row in
    (below (g.V.Volume.state c.args.volume.now) own.0 c.args.level c.args.branch.now own.1 own.2).lnum

pub open_node-requires-clause-stands : goal.open_node-requires-clause-stands
open_node-requires-clause-stands g c =
    let s = g.V.Volume.state c.args.volume.now in
    let own = c.requires.row in
    let branch = c.args.branch.now in
    let said : Index = record { level = c.args.level; branches = branches_of own.1 } in
    let P : List (List ℕ) → Type 0 = λ l. branches_of own.1 ≡ (node_said_at (contents_told l) (branch_at_place (place_by branch))).branches in (
      said,
      stands_at s.holds branch said (below s own.0 c.args.level branch own.1 own.2).said,
      subst P (sym c.see_medium-told.ensures) (sym (ap (λ (i : Index). i.branches) (said_on s own.0 c.args.level branch own.1 own.2))),
    )

pub open_node-requires-clause-there : goal.open_node-requires-clause-there
open_node-requires-clause-there g c =
    let P : List Link → Type 0 = λ l. AreLinksIn (length c.new-nodes.result.items) l in
    subst P (sym c.new-links.ensures.items) tt

pub returns-clause-shown : goal.returns-clause-shown
returns-clause-shown g c = λ fanout row on.
    let s = g.V.Volume.state c.args.volume.now in
    let branch = c.args.branch.now in
    let own = c.in_ok-open_node.ensures in
    own.opened
    ∙ ap (λ (l : List Link). row_before (node_views c.new-nodes.result.items) l (row_told c.see_medium-told.result.value c.args.level (branch_at_place (place_by branch)))) c.new-links.ensures.items
    ∙ ap (λ (l : List (List ℕ)). row_told l c.args.level branch) c.see_medium-told.ensures
    ∙ row_on s fanout c.args.level branch row on
