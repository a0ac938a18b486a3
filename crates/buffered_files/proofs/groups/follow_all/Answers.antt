use Rattle.std.proofs.Common.{◌≤◌, length, subst, sym, arith}
use Rattle.buffered_files.proofs.Following.{followed_few}
use Rattle.buffered_files.proofs.groups.follow_all.Goals as goal

pub overflow_sub-result : goal.overflow_sub-result
overflow_sub-result c =
    let before = c.dirty-before.ensures.count in
    let now = c.dirty.ensures.count in
    let fewer : length c.loop-change.kept.pages.dirty ≤ length c.args.kept.now.pages.dirty = subst (λ kept. length kept.pages.dirty ≤ length c.args.kept.now.pages.dirty) (sym c.loop-change.invariant) (followed_few c.loop-change.yielded c.args.kept.now) in
    omega (arith, before, now, fewer)

pub returns-clause-gone : goal.returns-clause-gone
returns-clause-gone c =
    let before = c.dirty-before.ensures.count in
    let now = c.dirty.ensures.count in
    let fewer : length c.loop-change.kept.pages.dirty ≤ length c.args.kept.now.pages.dirty = subst (λ kept. length kept.pages.dirty ≤ length c.args.kept.now.pages.dirty) (sym c.loop-change.invariant) (followed_few c.loop-change.yielded c.args.kept.now) in
    omega (arith, before, now, fewer)
