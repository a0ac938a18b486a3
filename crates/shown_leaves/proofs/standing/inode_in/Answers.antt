use Rattle.std.proofs.Common.{Some, ap, arith, sym, ◌∙◌}
use Rattle.tree_check.specs.declared.shown_leaf.Shown.{Shown}
use Rattle.shown_leaves.proofs.StandingNodes.{inode_is, inode_long}
use Rattle.shown_leaves.proofs.standing.inode_in.Goals as goal

pub returns-then-bytes-lt-INODE_END : goal.returns-then-bytes-lt-INODE_END
returns-then-bytes-lt-INODE_END c = λ sqnum group node h.
    let long = inode_long c.args.bytes.now (λ i. omega (arith, c.type_inv.bytes i)) sqnum group node h in
    let short = c.if-bytes-lt-INODE_END.true in
    absurd (omega (arith, long, short))

pub returns : goal.returns
returns c = λ sqnum group node h.
    inode_is c.args.bytes.now (λ i. omega (arith, c.type_inv.bytes i)) sqnum group node h c.u32_at.result c.u32_at-2.result c.u32_at-3.result c.u32_at.ensures c.u32_at-2.ensures c.u32_at-3.ensures
    ∙ ap (λ (s : Shown). Some s) (sym c.inode_shown.ensures)
