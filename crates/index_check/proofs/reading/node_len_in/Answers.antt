use Rattle.std.proofs.Common.{arith, refl}
use Rattle.index_check.proofs.StandingNodes.{no_node, none_of, too_long, too_short}
use Rattle.index_check.proofs.reading.node_len_in.Goals as goal

pub returns-then-front-lt24-clause-none : goal.returns-then-front-lt24-clause-none
returns-then-front-lt24-clause-none c len = too_short c.args.front.now c.args.front.now 0 len (λ i. omega (arith, c.type_inv.front i)) refl c.if-front-lt24.true

pub returns-then-len-front-clause-none : goal.returns-then-len-front-clause-none
returns-then-len-front-clause-none c len = too_long c.args.front.now c.args.front.now 0 len c.u32_at-len.result (λ i. omega (arith, c.type_inv.front i)) refl c.u32_at-len.ensures c.if-len-front.true

pub returns-in_default-clause-none : goal.returns-in_default-clause-none
returns-in_default-clause-none c len =
    no_node c.args.front.now c.args.front.now c.split_at.result.0.now 0 len c.u32_at-len.result (λ i. omega (arith, c.type_inv.front i)) refl c.u32_at-len.ensures c.split_at.ensures.front (none_of c.in_ok-read.read c.in_default.is c.in_ok-read.ensures.none)
