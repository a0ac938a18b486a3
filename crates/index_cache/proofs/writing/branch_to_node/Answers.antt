use Rattle.std.proofs.Common.{ap, sym}
use Rattle.index_media.specs.Clean.{node_branch}
use Rattle.node_table.specs.Pruning.{stretch_in}
use Rattle.index_cache.proofs.writing.branch_to_node.Goals as goal

pub returns-in-None : goal.returns-in-None
returns-in-None c = sym (ap (λ o. node_branch c.args.key (stretch_in o)) c.in-None.ensures.unseen)
