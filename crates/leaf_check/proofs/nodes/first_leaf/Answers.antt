use Rattle.std.proofs.Common.{arith}
use Rattle.leaf_check.proofs.WholeLeaves.{only_stands, some_stands, stands_len}
use Rattle.leaf_check.proofs.nodes.first_leaf.Goals as goal

pub returns-then-bytes-lt24-clause-only : goal.returns-then-bytes-lt24-clause-only
returns-then-bytes-lt24-clause-only c = λ found node h.
    let low = (stands_len c.args.bytes.now found node (λ i. omega (arith, c.type_inv.bytes i)) h).0 in
    let room = h.room in
    let short = c.if-bytes-lt24.true in
    absurd (omega (arith, low, room, short))

pub returns-then-len-bytes-clause-only : goal.returns-then-len-bytes-clause-only
returns-then-len-bytes-clause-only c = λ found node h.
    let len = (stands_len c.args.bytes.now found node (λ i. omega (arith, c.type_inv.bytes i)) h).1 in
    let room = h.room in
    let own = c.u32_at-len.ensures in
    let long = c.if-len-bytes.true in
    absurd (omega (arith, len, own, room, long))

pub returns-clause-some : goal.returns-clause-some
returns-clause-some c = some_stands c.args.bytes.now c.split_at.result.0.now c.u32_at-len.result c.whole_leaf.result (omega (arith, c.if-len-bytes.false)) c.split_at.ensures.front c.whole_leaf.ensures.some

pub returns-clause-only : goal.returns-clause-only
returns-clause-only c = λ found node h.
    only_stands c.one_node.ensures c.args.bytes.now c.split_at.result.0.now c.u32_at-len.result c.whole_leaf.result found node (λ i. omega (arith, c.type_inv.bytes i)) (omega (arith, c.if-len-bytes.false)) c.u32_at-len.ensures c.split_at.ensures.front c.whole_leaf.ensures.some c.whole_leaf.ensures.none h
