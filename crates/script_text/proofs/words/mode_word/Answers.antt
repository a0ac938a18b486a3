use Rattle.std.proofs.Common.{◌<◌, ◌^◌, ℕ, zero, suc, arith}
use Rattle.script_text.proofs.words.mode_word.Goals as goal

-- up to three octal digits
small : (i n : ℕ) → i < 4 → n < 8 ^ i → n < 512
small zero n few h = omega (arith, h)
small (suc zero) n few h = omega (arith, h)
small (suc (suc zero)) n few h = omega (arith, h)
small (suc (suc (suc zero))) n few h = omega (arith, h)
small (suc (suc (suc (suc i)))) n few h = absurd (omega (arith, few))

pub overflow_add-mode : goal.overflow_add-mode
overflow_add-mode c =
    let low : c.loop-digit.mode < 512 = small c.loop-digit.digit-index c.loop-digit.mode (omega arith) c.loop-digit.invariant.fits in
    omega (arith, low, c.from.ensures)
