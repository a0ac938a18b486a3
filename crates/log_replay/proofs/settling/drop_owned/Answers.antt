use Rattle.log_replay.specs.Settling.{spare_of}
use Rattle.log_replay.proofs.FromLast.{none_left}
use Rattle.log_replay.proofs.Settles.{drop_end, drop_on, drop_start}
use Rattle.log_replay.proofs.settling.drop_owned.Goals as goal

pub dropping-init : goal.dropping-init
dropping-init c = λ parts cs left can e has. drop_start parts cs left c.args.reads.now c.args.ranked.now can e has

pub dropping-preserved : goal.dropping-preserved
dropping-preserved c = λ parts cs left can e has.
    drop_on parts (spare_of parts cs left) c.dropping.left.now c.in-Some.rest.now c.in-Some.first.now c.dropping.ranked c.drop_of_one.new.ranked c.in-Some.ensures.cases.0 (c.dropping.invariant parts cs left can e has) c.in_ok-drop_of_one.ensures

pub returns : goal.returns
returns c = λ parts cs left can e has. drop_end parts (spare_of parts cs left) c.dropping.left.now c.dropping.ranked (none_left c.dropping.left.now c.in_default.ensures.cases) (c.dropping.invariant parts cs left can e has)
