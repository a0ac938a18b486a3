use Rattle.std.proofs.Common.{Some, ap, arith, sym, ◌∙◌}
use Rattle.tree_check.specs.declared.shown_leaf.Shown.{Shown}
use Rattle.shown_leaves.proofs.StandingNodes.{block_is, block_long}
use Rattle.shown_leaves.proofs.standing.block_in.Goals as goal

pub returns-then-bytes : goal.returns-then-bytes
returns-then-bytes c = λ sqnum group node h.
    let long = block_long c.args.bytes.now (λ i. omega (arith, c.type_inv.bytes i)) sqnum group node h in
    let short = c.if-bytes.true in
    absurd (omega (arith, long, short))

pub returns : goal.returns
returns c = λ sqnum group node h.
    block_is c.args.bytes.now (λ i. omega (arith, c.type_inv.bytes i)) sqnum group node h c.u32_at.result c.u32_at-2.result c.u32_at.ensures c.u32_at-2.ensures
    ∙ ap (λ (s : Shown). Some s) (sym c.block_shown.ensures)
