use Rattle.std.proofs.Common.{arith}
use Rattle.media_lpt.proofs.FrameLemmas.{first_two}
use Rattle.media_lpt.proofs.frame.checksum.Goals as goal

pub returns-clause-low : goal.returns-clause-low
returns-clause-low c = first_two c.args.bytes.now c.requires (λ i. omega (arith, c.type_inv.bytes i))
