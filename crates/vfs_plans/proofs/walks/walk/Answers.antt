use Rattle.std.proofs.Common.{◌+◌, arith, rules}
use Rattle.vfs_plans.proofs.Walking.{Looks-then, walking_more, walking_ends}
use Rattle.vfs_plans.proofs.walks.walk.Goals as goal

pub loop-done-preserved : goal.loop-done-preserved
loop-done-preserved g c =
    walking_more (g.B.Backing.outlook c.args.backing.now) (g.B.Backing.outlook c.loop-done.backing) (g.B.Backing.outlook c.child.new.backing)
    (g.B.Backing.state c.args.backing.now) (g.B.Backing.state c.loop-done.backing) (g.B.Backing.state c.child.new.backing)
    c.args.kept.now c.args.names.now c.loop-done.at c.in_ok-at.at c.loop-done.done (c.loop-done.done + 1) c.index-names-done.result c.loop-done.invariant c.loop-done-test.true c.index-names-done.is (omega arith) c.in_ok-at.ensures.found c.in_ok-at.ensures.looks

pub returns-in_err-at-clause-looks : goal.returns-in_err-at-clause-looks
returns-in_err-at-clause-looks g c =
    Looks-then (g.B.Backing.outlook c.args.backing.now) (g.B.Backing.outlook c.loop-done.backing) (g.B.Backing.outlook c.child.new.backing)
    (g.B.Backing.state c.args.backing.now) (g.B.Backing.state c.loop-done.backing) (g.B.Backing.state c.child.new.backing) c.loop-done.invariant.looks c.child.ensures.looks

pub returns-in_err-at-clause-refused : goal.returns-in_err-at-clause-refused
returns-in_err-at-clause-refused g c =
    let e = walking_ends (g.B.Backing.outlook c.args.backing.now) (g.B.Backing.outlook c.loop-done.backing)
    (g.B.Backing.state c.args.backing.now) (g.B.Backing.state c.loop-done.backing) (g.B.Backing.state c.child.new.backing)
    c.args.kept.now c.args.names.now c.loop-done.at c.loop-done.done c.index-names-done.result c.in_err-at.field-0.0 c.loop-done.invariant c.loop-done-test.true c.index-names-done.is c.in_err-at.ensures.refused in
    search (rules, e)
