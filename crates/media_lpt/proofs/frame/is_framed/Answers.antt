use Rattle.std.proofs.Common.{arith, rules}
use Rattle.media_lpt.proofs.FrameLemmas.{framed_by}
use Rattle.media_lpt.proofs.frame.is_framed.Goals as goal

pub returns : goal.returns
returns c = framed_by c.args.bytes.now c.args.kind c.args.bits _ c.get-3.result (λ i. omega (arith, c.type_inv.bytes i)) (omega arith) (search rules) (search rules) (omega arith) c.get-3.ensures.number
