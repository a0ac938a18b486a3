use Rattle.store_model.proofs.ReadNodes.{nodes_carry}
use Rattle.store_model.proofs.RecoveryTrees.{allowed}
use Rattle.store_model.proofs.recovery.what_fits_is_recovered.Goals as goal

pub returns-clause-nodes : goal.returns-clause-nodes
returns-clause-nodes c = nodes_carry

pub returns-clause-tree : goal.returns-clause-tree
returns-clause-tree c = λ f parts has carried apart orphans fits.
    let law = c.what_fits_loses_no_leaf.ensures in
    allowed c.what_loses_nothing_fits.ensures.fits c.a_mount_finds_what_a_cut_may_leave.ensures.found f parts has fits (nodes_carry f parts carried apart fits)
    (law.read f parts has fits) (law.safe f parts has fits) (law.listed f parts has orphans fits)
