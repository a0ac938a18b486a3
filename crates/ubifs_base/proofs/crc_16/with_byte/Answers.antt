use Rattle.std.proofs.Common.{◌/◌, ap, ◌∙◌, sym, arith, bit_xor}
use Rattle.std.proofs.lemmas.Nat.{and_mask}
use Rattle.ubifs_base.specs.Crc.{crc_bits}
use Rattle.ubifs_base.proofs.CrcLemmas.{crc_byte-from_table}
use Rattle.ubifs_base.proofs.crc_16.with_byte.Goals as goal

pub overflow_cast-byte : goal.overflow_cast-byte
overflow_cast-byte c = let e = and_mask (bit_xor c.args.crc c.args.byte) 8 in omega (arith, e)

pub returns : goal.returns
returns c = sym (
    crc_byte-from_table 0xA001 c.args.crc c.args.byte (omega arith)
    ∙ ap (λ x. bit_xor x (c.args.crc / 256)) (sym (c.byte_after.ensures ∙ ap (crc_bits 0xA001 8) (and_mask (bit_xor c.args.crc c.args.byte) 8))))
