use Rattle.std.proofs.Common.{true, false, length, sym}
use Rattle.image_space.specs.Uses.{is_vain_in}
use Rattle.image_space.proofs.Counted.{sought_here, sought_next}
use Rattle.image_space.proofs.Places.{vain_at}
use Rattle.image_space.proofs.counting.opened_in_vain.Goals as goal

pub loop-at-preserved : goal.loop-at-preserved
loop-at-preserved c =
    let first = c.args.first in
    let uses = c.args.uses.now in
    sought_next (is_vain_in first uses) first (length uses) c.loop-at.at c.loop-at-test.true (vain_at first c.loop-at.at uses c.is_vain.result false c.is_vain.ensures c.if-is_vain.false) c.loop-at.invariant

pub returns-then-is_vain : goal.returns-then-is_vain
returns-then-is_vain c =
    let first = c.args.first in
    let uses = c.args.uses.now in
    sym (sought_here (is_vain_in first uses) first (length uses) c.loop-at.at c.loop-at-test.true (vain_at first c.loop-at.at uses c.is_vain.result true c.is_vain.ensures c.if-is_vain.true) c.loop-at.invariant)
