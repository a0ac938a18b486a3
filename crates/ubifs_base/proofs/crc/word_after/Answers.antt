use Rattle.std.proofs.Common.{arith, sym, ◌≡◌, ◌+◌, ◌-◌, ◌*◌, ◌/◌}
use Rattle.std.proofs.lemmas.Nat.{and_mask}
use Rattle.ubifs_base.proofs.CrcLemmas.{crc_bits-word}
use Rattle.ubifs_base.proofs.crc.word_after.Goals as goal

pub returns : goal.returns
returns c =
    let count = c.args.count in
    let word = c.args.word in
    let more = 8 * (count - 4) in
    let e0 : 8 * count ≡ 32 + more = omega arith in
    let e1 : 8 * (count - 1) ≡ 24 + more = omega arith in
    let e2 : 8 * (count - 2) ≡ 16 + more = omega arith in
    let e3 : 8 * (count - 3) ≡ 8 + more = omega arith in
    rw (c.byte_after.ensures, c.byte_after-2.ensures, c.byte_after-3.ensures, c.byte_after-4.ensures, and_mask word 8, and_mask (word / 256) 8, and_mask (word / 65536) 8, e0, e1, e2, e3)
    (sym (crc_bits-word 0xEDB88320 more word))
