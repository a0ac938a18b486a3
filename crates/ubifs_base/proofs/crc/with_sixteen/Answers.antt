use Rattle.std.proofs.Common.{sym, arith}
use Rattle.ubifs_base.proofs.CrcLemmas.{crc_from-sixteen}
use Rattle.ubifs_base.proofs.crc.with_sixteen.Goals as goal

pub returns : goal.returns
returns c =
    rw (
      c.word_after.ensures,
      c.word_after-2.ensures,
      c.word_after-3.ensures,
      c.word_after-4.ensures,
      c.read_u32-first.ensures,
      c.read_u32-second.ensures,
      c.read_u32-third.ensures,
      c.read_u32-fourth.ensures,
      c.split_at-3.ensures.back,
      c.split_at-2.ensures.back,
      c.split_at.ensures.back,
    )
    (sym (crc_from-sixteen 0xEDB88320 c.args.bytes.now c.args.crc c.requires (λ i. omega (arith, c.type_inv.bytes i))))
