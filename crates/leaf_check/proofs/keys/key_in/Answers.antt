use Rattle.std.proofs.Common.{arith}
use Rattle.leaf_check.proofs.NodeKeys.{key_room, key_told}
use Rattle.leaf_check.proofs.keys.key_in.Goals as goal

pub returns-then-bytes-lt-KEY_END : goal.returns-then-bytes-lt-KEY_END
returns-then-bytes-lt-KEY_END c = λ sqnum group node h kind.
    let long = key_room c.args.bytes.now sqnum group node (λ i. omega (arith, c.type_inv.bytes i)) h in
    let short = c.if-bytes-lt-KEY_END.true in
    absurd (omega (arith, long, short))

pub returns : goal.returns
returns c = λ sqnum group node h kind.
    key_told c.args.bytes.now sqnum group node c.args.kind c.u32_at.result c.u32_at-2.result c.key_of_words.result (λ i. omega (arith, c.type_inv.bytes i)) h kind c.u32_at.ensures c.u32_at-2.ensures c.key_of_words.ensures
