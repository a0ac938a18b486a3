use Rattle.std.proofs.Common.{arith}
use Rattle.ubi_volume.proofs.Lebs.{drop-torn}
use Rattle.ubi_volume.proofs.TornWrite.{write_left-torn}
use Rattle.ubi_volume.proofs.tear.tear_at.Goals as goal

pub returns-clause-torn : goal.returns-clause-torn
returns-clause-torn c = rw c.write_until.ensures (write_left-torn c.args.tear.unit c.args.tear.done c.args.tear.digit c.args.offs c.args.bytes.now c.args.buffer.now c.requires.inside c.requires.range)

pub returns-clause-bytes : goal.returns-clause-bytes
returns-clause-bytes c = λ i. omega (arith, c.type_inv.buffer i)

pub returns-clause-blank : goal.returns-clause-blank
returns-clause-blank c = λ written size behind blank.
    let torn = write_left-torn c.args.tear.unit c.args.tear.done c.args.tear.digit c.args.offs c.args.bytes.now c.args.buffer.now c.requires.inside c.requires.range in
    rw c.write_until.ensures (drop-torn c.args.offs _ written size c.args.buffer.now _ behind blank torn)
