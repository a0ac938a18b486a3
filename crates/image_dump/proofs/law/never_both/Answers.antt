use Rattle.image_dump.proofs.NeverBoth.{opened_not_faulty}
use Rattle.image_dump.proofs.OneImage.{one_geometry}
use Rattle.image_dump.proofs.law.never_both.Goals as goal

pub returns-clause-both : goal.returns-clause-both
returns-clause-both c = opened_not_faulty c.one_node.ensures

pub returns-clause-geometry : goal.returns-clause-geometry
returns-clause-geometry c = one_geometry c.one_node.ensures
