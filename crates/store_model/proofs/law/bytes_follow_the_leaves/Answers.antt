use Rattle.std.proofs.Common.{arith}
use Rattle.std.specs.Prelude.{fold}
use Rattle.store_model.specs.Events.{after_part, is_synced_orphan}
use Rattle.store_model.proofs.Bytes.{drop_bytes, paid_bytes, parts_bytes}
use Rattle.store_model.proofs.law.bytes_follow_the_leaves.Goals as goal

pub returns-clause-put : goal.returns-clause-put
returns-clause-put c = λ m p can has.
    let law = c.a_change_of_leaves_is_one_of_the_tree.ensures in
    let put = parts_bytes c.bytes_of_leaves_add_up.ensures law.kept p.parts m can.parts has.leaves in
    let paid = paid_bytes p.payment (fold after_part m p.parts) in
    omega (arith, put, paid)

pub returns-clause-dropped : goal.returns-clause-dropped
returns-clause-dropped c = λ m ino index can has. drop_bytes c.bytes_of_leaves_add_up.ensures ino m.live m.held (is_synced_orphan m.orphans ino) can.number has.leaves
