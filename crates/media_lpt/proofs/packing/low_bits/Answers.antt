use Rattle.std.proofs.Common.{arith, ap, ◌∙◌, ◌/◌, ◌%◌, ◌^◌, ◌*◌}
use Rattle.media_lpt.proofs.PackingLemmas.{word_bits}
use Rattle.media_lpt.proofs.packing.low_bits.Goals as goal

pub returns : goal.returns
returns c = ap (λ w. w / 2 ^ c.args.bit % (1 * 2 ^ c.args.width % 2 ^ 64)) c.read_uint-word.ensures
    ∙ word_bits c.args.bytes.now c.args.bit c.args.width c.div_ceil-count.result (omega arith) (omega arith) c.requires.most
