use Rattle.leb_scan.specs.Text.{leaf, system}
use Rattle.leb_scan.proofs.Places.{known_else}
use Rattle.leb_scan.proofs.node_at.is_known.Goals as goal

pub returns-then-is_leaf : goal.returns-then-is_leaf
returns-then-is_leaf c = (λ h. let is = c.is_leaf.ensures.0 h in (leaf is.0, is.1), λ h. c.if-is_leaf.true)

pub returns-else-is_leaf : goal.returns-else-is_leaf
returns-else-is_leaf c = (
  λ h. let is = c.is_system.ensures.0 h in (system is.0, is.1),
  known_else c.args.kind c.args.body.now c.is_leaf.result c.is_system.result c.if-is_leaf.false c.is_leaf.ensures.1 c.is_system.ensures.1,
)
