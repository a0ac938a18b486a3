use Rattle.std.proofs.Common.{arith}
use Rattle.journal_scan.proofs.Contents.{block_long, block_told}
use Rattle.journal_scan.proofs.content.read_block.Goals as goal

pub returns-then-bytes-lt-KEY_END : goal.returns-then-bytes-lt-KEY_END
returns-then-bytes-lt-KEY_END c = λ sqnum group node h.
    let long = block_long c.args.bytes.now (λ i. omega (arith, c.type_inv.bytes i)) sqnum group node h in
    let short = c.if-bytes-lt-KEY_END.true in
    absurd (omega (arith, long, short))

pub returns : goal.returns
returns c = λ sqnum group node h.
    block_told c.args.bytes.now (λ i. omega (arith, c.type_inv.bytes i)) sqnum group node h c.u32_at.result c.u32_at-2.result c.u32_at.ensures c.u32_at-2.ensures
