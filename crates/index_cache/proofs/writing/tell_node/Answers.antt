use Rattle.std.proofs.Common.{◌++◌, List, ap, sym, ◌∙◌}
use Rattle.std.specs.Prelude.{map}
use Rattle.media_sys.specs.declared.branch.Branch.{Branch}
use Rattle.table_nodes.specs.NodeView.{node_views}
use Rattle.index_cache.specs.Commit.{link_branch}
use Rattle.index_cache.proofs.Written.{linked_branches}
use Rattle.index_cache.proofs.writing.tell_node.Goals as goal

pub returns-clause-branches : goal.returns-clause-branches
returns-clause-branches c =
    let seen = node_views c.args.table.now.nodes.items in
    c.push_branches.ensures.items
    ∙ ap (λ (v : List Branch). v ++ map (link_branch seen) c.as_slice.result.now) c.clear.ensures.items
    ∙ ap (map (link_branch seen)) c.as_slice.ensures.value
    ∙ sym (linked_branches seen c.args.node.now.links.items)
