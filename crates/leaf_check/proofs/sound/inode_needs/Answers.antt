use Rattle.std.proofs.Common.{arith}
use Rattle.std.proofs.lemmas.Bool.{ltb-false, ltb-true}
use Rattle.leaf_check.proofs.KnownNodes.{has_none, has_some, inode_known, inode_needed, is_attribute, too_short}
use Rattle.leaf_check.proofs.sound.inode_needs.Goals as goal

pub returns-then-bytes-lt-INODE_END-clause-no : goal.returns-then-bytes-lt-INODE_END-clause-no
returns-then-bytes-lt-INODE_END-clause-no c = λ no.
    let (sqnum, group, node, is, type) = c.requires in
    inode_known c.args.bytes.now sqnum group node (λ i. omega (arith, c.type_inv.bytes i)) is type (too_short c.args.bytes.now (omega (arith, c.if-bytes-lt-INODE_END.true)))

pub returns-then-flags-ne0-clause-yes : goal.returns-then-flags-ne0-clause-yes
returns-then-flags-ne0-clause-yes c = λ yes.
    let (sqnum, group, node, is, type) = c.requires in
    let long = c.if-bytes-lt-INODE_END.false in
    let set = c.if-flags-ne0.true in
    inode_needed c.args.bytes.now sqnum group node (λ i. omega (arith, c.type_inv.bytes i)) is type
    (is_attribute c.args.bytes.now c.u32_at-flags.result c.u32_at-count.result c.u32_at-flags.ensures c.u32_at-count.ensures (omega (arith, long)) (λ zero. omega (arith, set, zero)))

pub returns-clause-yes : goal.returns-clause-yes
returns-clause-yes c = λ yes.
    let (sqnum, group, node, is, type) = c.requires in
    let long = c.if-bytes-lt-INODE_END.false in
    inode_needed c.args.bytes.now sqnum group node (λ i. omega (arith, c.type_inv.bytes i)) is type
    (has_some c.args.bytes.now c.u32_at-flags.result c.u32_at-count.result c.u32_at-flags.ensures c.u32_at-count.ensures (omega (arith, long)) (ltb-true 0 c.u32_at-count.result yes))

pub returns-clause-no : goal.returns-clause-no
returns-clause-no c = λ no.
    let (sqnum, group, node, is, type) = c.requires in
    let clear = c.if-flags-ne0.false in
    inode_known c.args.bytes.now sqnum group node (λ i. omega (arith, c.type_inv.bytes i)) is type
    (has_none c.args.bytes.now c.u32_at-flags.result c.u32_at-count.result c.u32_at-flags.ensures c.u32_at-count.ensures (omega (arith, clear)) (let few = ltb-false 0 c.u32_at-count.result no in omega (arith, few)))
