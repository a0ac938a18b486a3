use Rattle.std.proofs.Common.{refl, sym, subst}
use Rattle.std.specs.Prelude.{Option}
use Rattle.media_sys.specs.declared.branch.Branch.{Branch}
use Rattle.mounted_index.specs.Committed.{HasNodesFrom}
use Rattle.mounted_index.specs.declared.mounted.IndexNodes.TheVariants.{InMemory}
use Rattle.mounted_index.proofs.commit.nodes_of.Goals as goal

pub returns-in-None : goal.returns-in-None
returns-in-None c =
    let N : Option Branch → Type 0 = λ r. HasNodesFrom c.args.fanout r (InMemory c.new.result) in
    subst N (sym c.in-None.is) (c.new.result, refl, c.new.ensures.tree, c.new.ensures.fanout)
