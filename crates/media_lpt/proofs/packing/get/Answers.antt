use Rattle.std.proofs.Common.{arith, ap, ◌∙◌, ◌/◌, ◌%◌, ◌^◌, ◌<◌, ℕ, subst, sym}
use Rattle.std.proofs.lemmas.Nat.{pow_pos, mod_below}
use Rattle.media_lpt.specs.Packed.{bytes_number}
use Rattle.media_lpt.proofs.PackingLemmas.{bits_at}
use Rattle.media_lpt.proofs.packing.get.Goals as goal

pub returns-clause-number : goal.returns-clause-number
returns-clause-number c = c.low_bits.ensures ∙ ap (λ b. bytes_number b / 2 ^ (c.args.bit % 8) % 2 ^ c.args.width) c.split_at.ensures.back
    ∙ bits_at c.args.bytes.now c.args.bit c.args.width (omega arith) (λ i. omega (arith, c.type_inv.bytes i))

pub returns-clause-small : goal.returns-clause-small
returns-clause-small c =
    let P : ℕ → Type 0 = λ x. x < 2 ^ c.args.width in
    subst P (sym c.low_bits.ensures) (mod_below (bytes_number c.split_at.result.1.now / 2 ^ (c.args.bit % 8)) (2 ^ c.args.width) (pow_pos c.args.width))
