use Rattle.std.proofs.Common.{arith}
use Rattle.leaf_recovery.specs.Ranked.{leaves_at_rank}
use Rattle.leaf_recovery.proofs.Dropping.{walk_end, walk_on, walk_starts}
use Rattle.leaf_recovery.proofs.ranked.drop_between.Goals as goal

pub passing-init : goal.passing-init
passing-init c = (omega arith, walk_starts c.args.content.now c.args.first c.args.past (leaves_at_rank c.args.ranked.now))

pub passing-preserved : goal.passing-preserved
passing-preserved c =
    let i = c.passing.invariant in
    let n = c.in-Some.ensures.some in (
      omega (arith, i.0, n.0),
      walk_on c.args.content.now c.args.first c.args.past (leaves_at_rank c.args.ranked.now) c.passing.at c.in-Some.rank (leaves_at_rank c.passing.ranked) (leaves_at_rank c.drop_at.new.ranked) i.0 n.0 n.1 i.1 c.in-Some.ensures.least c.in_ok-drop_at.ensures,
    )

pub returns : goal.returns
returns c =
    let i = c.passing.invariant in
    walk_end c.args.content.now c.args.first c.args.past (leaves_at_rank c.args.ranked.now) c.passing.at (leaves_at_rank c.passing.ranked) i.1 (λ r l k. c.in_default.ensures.least r l k tt)
