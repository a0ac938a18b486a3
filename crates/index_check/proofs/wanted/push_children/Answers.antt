use Rattle.std.proofs.Common.{◌++◌, refl}
use Rattle.index_check.specs.IndexWalk.{waiting_in, wanted_below}
use Rattle.index_check.proofs.Levels.{pushed_next}
use Rattle.index_check.proofs.wanted.push_children.Goals as goal

pub pushing-preserved : goal.pushing-preserved
pushing-preserved c =
    pushed_next c.args.level c.pushing.bound c.pushing.left.now c.in-Some.before.now c.in-Some.last.now c.pushing.waiting.items c.push.new.self.items _ (wanted_below c.args.level c.args.most c.args.branches.now ++ waiting_in c.args.waiting.now.items) c.in-Some.ensures.cases.0
    refl c.in_ok-push.ensures.items c.pushing.invariant
