use Rattle.std.proofs.Common.{arith}
use Rattle.ubi_volume.proofs.leb.fill_with.Goals as goal

pub returns-clause-bytes : goal.returns-clause-bytes
returns-clause-bytes c = λ i. omega (arith, c.type_inv.buffer i)
