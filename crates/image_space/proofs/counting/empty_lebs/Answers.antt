use Rattle.std.proofs.Common.{true, false, length, refl}
use Rattle.image_space.specs.Uses.{counts_in}
use Rattle.image_space.proofs.Counted.{counted_no, counted_yes}
use Rattle.image_space.proofs.Places.{empty_at}
use Rattle.image_space.proofs.counting.empty_lebs.Goals.{then-is_empty, else-is_empty}
use Rattle.image_space.proofs.counting.empty_lebs.Goals as goal

pub loop-at-preserved : goal.loop-at-preserved
loop-at-preserved c =
    let first = c.args.first in
    let uses = c.args.uses.now in
    let at = c.loop-at.at in
    elim c.if-is_empty.branch [
      | then-is_empty w ↦
          counted_yes (counts_in first uses) first (length uses) at c.loop-at.count c.if-is_empty.count c.loop-at-test.true (empty_at first at _ uses c.opened_in_vain-opened.result c.is_empty.result true refl c.opened_in_vain-opened.ensures c.is_empty.ensures w.if-is_empty.true) w.count-is c.loop-at.invariant
      | else-is_empty w ↦
          counted_no (counts_in first uses) first (length uses) at c.loop-at.count c.if-is_empty.count c.loop-at-test.true (empty_at first at _ uses c.opened_in_vain-opened.result c.is_empty.result false refl c.opened_in_vain-opened.ensures c.is_empty.ensures w.if-is_empty.false) w.count-is c.loop-at.invariant
    ]
