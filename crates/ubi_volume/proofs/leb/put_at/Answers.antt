use Rattle.std.proofs.Common.{arith}
use Rattle.ubi_volume.specs.TornLaws.{Torn-put}
use Rattle.ubi_volume.proofs.Lebs.{drop-put}
use Rattle.ubi_volume.proofs.leb.put_at.Goals as goal

pub returns-clause-torn : goal.returns-clause-torn
returns-clause-torn c = rw c.copy_at.ensures (Torn-put c.args.offs c.args.bytes.now c.args.buffer.now c.requires)

pub returns-clause-blank : goal.returns-clause-blank
returns-clause-blank c = λ written size behind blank. rw c.copy_at.ensures (drop-put c.args.offs written size c.args.bytes.now c.args.buffer.now behind c.requires blank)

pub returns-clause-bytes : goal.returns-clause-bytes
returns-clause-bytes c = λ i. omega (arith, c.type_inv.buffer i)
