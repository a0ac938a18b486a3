use Rattle.std.proofs.Common.{refl}
use Rattle.leaf_recovery.proofs.Stepping.{still_end, still_next}
use Rattle.leaf_recovery.proofs.after_nodes.apply_ranked.Goals as goal

pub applying-init : goal.applying-init
applying-init c = λ leaves fits h. (leaves, fits, h, refl)

pub applying-preserved : goal.applying-preserved
applying-preserved c = λ leaves fits h. still_next _ _ _ _ _ _ c.in-Some.ensures.cases.0 c.in_ok-apply_node_ranked.ensures (c.applying.invariant leaves fits h)

pub returns : goal.returns
returns c = λ leaves fits h. still_end _ _ _ c.in_default.ensures.cases (c.applying.invariant leaves fits h)
