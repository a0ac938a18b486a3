use Rattle.std.proofs.Common.{arith, sym, ◌∙◌}
use Rattle.journal_scan.proofs.Contents.{ino_at, inode_long, links_at, mode_at}
use Rattle.journal_scan.proofs.content.read_inode.Goals as goal

pub returns-then-bytes-lt-INODE_END : goal.returns-then-bytes-lt-INODE_END
returns-then-bytes-lt-INODE_END c = λ sqnum group node h.
    let long = inode_long c.args.bytes.now (λ i. omega (arith, c.type_inv.bytes i)) sqnum group node h in
    let short = c.if-bytes-lt-INODE_END.true in
    absurd (omega (arith, long, short))

pub returns : goal.returns
returns c = λ sqnum group node h.
    c.content_of_inode.ensures node
    (ino_at c.args.bytes.now (λ i. omega (arith, c.type_inv.bytes i)) sqnum group node h ∙ sym c.u32_at.ensures)
    (links_at c.args.bytes.now (λ i. omega (arith, c.type_inv.bytes i)) sqnum group node h ∙ sym c.u32_at-2.ensures)
    (mode_at c.args.bytes.now (λ i. omega (arith, c.type_inv.bytes i)) sqnum group node h ∙ sym c.u32_at-3.ensures)
