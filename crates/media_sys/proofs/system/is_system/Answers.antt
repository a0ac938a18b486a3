use Rattle.std.proofs.Common.{sym, ◌∙◌, arith}
use Rattle.media_sys.proofs.SystemLaws.{node-tested, tested-node}
use Rattle.media_sys.proofs.system.is_system.Goals as goal

pub returns : goal.returns
returns c = (
  λ h. tested-node c.args.kind c.args.body.now (λ i. omega (arith, c.type_inv.body i)) (sym c.is_any.ensures ∙ h),
  λ (node, is). c.is_any.ensures ∙ node-tested c.args.kind c.args.body.now node is,
)
