use Rattle.std.proofs.Common.{arith}
use Rattle.leaf_check.proofs.SoundLeaves.{its_node_of, key_of_its}
use Rattle.leaf_check.proofs.sound.is_its_node.Goals as goal

pub returns-then-needs_feature : goal.returns-then-needs_feature
returns-then-needs_feature c = (λ h. absurd cc, λ its. absurd (c.needs_feature.ensures.yes c.if-needs_feature.true its.known))

pub returns : goal.returns
returns c = (
  λ h. its_node_of c.args.bytes.now c.args.leaf.now c.args.found c.key_in.result c.requires.node c.key_in.ensures (c.needs_feature.ensures.no c.if-needs_feature.false) (c.is_key.ensures.0 h),
  λ its. c.is_key.ensures.1 (key_of_its c.one_node.ensures c.args.bytes.now c.args.leaf.now c.args.found c.key_in.result (λ i. omega (arith, c.type_inv.bytes i)) c.requires.node c.key_in.ensures its),
)
