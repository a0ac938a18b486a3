use Rattle.std.proofs.Common.{true, false, length}
use Rattle.image_space.specs.Uses.{is_indexed_in}
use Rattle.image_space.proofs.Counted.{counted_no, counted_yes}
use Rattle.image_space.proofs.Places.{indexed_at}
use Rattle.image_space.proofs.counting.index_lebs.Goals.{then-uses-at, else-uses-at}
use Rattle.image_space.proofs.counting.index_lebs.Goals as goal

pub loop-at-preserved : goal.loop-at-preserved
loop-at-preserved c =
    let first = c.args.first in
    let uses = c.args.uses.now in
    elim c.if-uses-at.branch [
      | then-uses-at w ↦ counted_yes (is_indexed_in first uses) first (length uses) c.loop-at.at c.loop-at.count c.if-uses-at.count c.loop-at-test.true (indexed_at first c.loop-at.at uses true w.if-uses-at.true) w.count-is c.loop-at.invariant
      | else-uses-at w ↦ counted_no (is_indexed_in first uses) first (length uses) c.loop-at.at c.loop-at.count c.if-uses-at.count c.loop-at-test.true (indexed_at first c.loop-at.at uses false w.if-uses-at.false) w.count-is c.loop-at.invariant
    ]
