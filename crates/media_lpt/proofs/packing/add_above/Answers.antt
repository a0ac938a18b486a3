use Rattle.std.proofs.Common.{arith, ap, sym, ◌∙◌, ◌%◌, ◌^◌, ◌*◌, ◌+◌, ◌<◌, ◌≡◌, ℕ, subst, ◌++◌, drop}
use Rattle.byteorder.specs.Endian.{little_number, little_bytes}
use Rattle.media_lpt.proofs.PackingLemmas.{shifted, sum-lt, word-lt, word-put, pow256}
use Rattle.media_lpt.proofs.packing.add_above.Goals as goal

pub overflow_add-word : goal.overflow_add-word
overflow_add-word c =
    let e = shifted c.args.value c.args.bit c.args.width c.requires.bit c.requires.most c.requires.fits in
    let w : c.read_uint-word.result < 2 ^ c.args.bit = (let P : ℕ → Type 0 = λ x. x < 2 ^ c.args.bit in subst P (sym c.read_uint-word.ensures) (word-lt c.args.out.now c.args.bit c.div_ceil-count.result (omega arith) c.requires.free)) in
    let s : c.read_uint-word.result + c.args.value * 2 ^ c.args.bit < 2 ^ 64 = sum-lt c.read_uint-word.result c.args.value c.args.bit c.args.width 64 w c.requires.fits (omega arith) in
    rw e (omega (arith, s))

pub write_uint-requires-clause-fits : goal.write_uint-requires-clause-fits
write_uint-requires-clause-fits c =
    let count = c.div_ceil-count.result in
    let e = shifted c.args.value c.args.bit c.args.width c.requires.bit c.requires.most c.requires.fits in
    let w : c.read_uint-word.result < 2 ^ c.args.bit = (let P : ℕ → Type 0 = λ x. x < 2 ^ c.args.bit in subst P (sym c.read_uint-word.ensures) (word-lt c.args.out.now c.args.bit count (omega arith) c.requires.free)) in
    rw (e, pow256 count) (sum-lt c.read_uint-word.result c.args.value c.args.bit c.args.width (8 * count) w c.requires.fits (omega arith))

pub returns : goal.returns
returns c =
    let count = c.div_ceil-count.result in
    let e = shifted c.args.value c.args.bit c.args.width c.requires.bit c.requires.most c.requires.fits in
    let w : c.read_uint-word.result < 2 ^ c.args.bit = (let P : ℕ → Type 0 = λ x. x < 2 ^ c.args.bit in subst P (sym c.read_uint-word.ensures) (word-lt c.args.out.now c.args.bit count (omega arith) c.requires.free)) in
    let same : c.read_uint-word.result + c.args.value * 2 ^ c.args.bit % 2 ^ 64 ≡ little_number count c.args.out.now + c.args.value * 2 ^ c.args.bit = ap (λ x. c.read_uint-word.result + x) e ∙ ap (λ x. x + c.args.value * 2 ^ c.args.bit) c.read_uint-word.ensures in
    let P : ℕ → Type 0 = λ x. x < 256 ^ count in
    word-put c.args.out.now c.write_uint.new.buf c.args.bit c.args.value count (omega arith) (subst P same (rw (e, pow256 count) (sum-lt c.read_uint-word.result c.args.value c.args.bit c.args.width (8 * count) w c.requires.fits (omega arith))))
    (c.write_uint.ensures ∙ ap (λ x. little_bytes count x ++ drop count c.args.out.now) same)
