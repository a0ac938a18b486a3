use Rattle.std.proofs.Common.{ℕ, ◌+◌, ◌*◌, ◌%◌, ap, ◌∙◌, arith}
use Rattle.ubifs_base.specs.Crc.{crc16_of}
use Rattle.image_check.proofs.Misfits.{misfit_sum, misfit_type}
use Rattle.image_check.proofs.property_rows.misfit.Goals as goal

pub returns-then-stored-right-clause-values : goal.returns-then-stored-right-clause-values
returns-then-stored-right-clause-values c =
    let low = c.byte_or_0.ensures in
    let high = c.byte_or_0-2.ensures in
    misfit_type c.args.kind c.args.bytes.now (c.byte_or_0.result + 256 * c.byte_or_0-2.result) c.crc16-right.result (c.byte_or_0-then-stored-right.result % 16) (λ i. omega (arith, c.type_inv.bytes i)) (omega (arith, low, high)) (c.crc16-right.ensures ∙ ap crc16_of c.behind_two.ensures)
    c.if-stored-right.true (ap (λ (n : ℕ). n % 16) c.byte_or_0-then-stored-right.ensures)

pub returns-clause-values : goal.returns-clause-values
returns-clause-values c =
    let low = c.byte_or_0.ensures in
    let high = c.byte_or_0-2.ensures in
    misfit_sum c.args.kind c.args.bytes.now (c.byte_or_0.result + 256 * c.byte_or_0-2.result) c.crc16-right.result (λ i. omega (arith, c.type_inv.bytes i)) (omega (arith, low, high)) (c.crc16-right.ensures ∙ ap crc16_of c.behind_two.ensures) c.if-stored-right.false
