use Rattle.std.specs.Prelude.{is_some}
use Rattle.std.specs.BTreeMap.{get}
use Rattle.std.specs.Ordering.{nat_cmp}
use Rattle.log_replay.proofs.Sparing.{kept_on}
use Rattle.log_replay.proofs.spared.without_spared.Goals as goal

pub loop-ino-preserved : goal.loop-ino-preserved
loop-ino-preserved c =
    kept_on (λ ino. is_some (get nat_cmp c.args.spared.now ino)) c.args.listed.now _ c.loop-ino.left.items c.keep_unspared.new.left.items c.loop-ino.ino-index c.loop-ino-test.true c.loop-ino.invariant c.in_ok-keep_unspared.ensures
