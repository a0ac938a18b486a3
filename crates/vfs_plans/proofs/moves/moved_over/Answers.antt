use Rattle.std.proofs.Common.{rules}
use Rattle.buffered_files.specs.Present.{present}
use Rattle.vfs_plans.proofs.Plans.{moved_not, moved_over_is, refused_so, tree_on}
use Rattle.vfs_plans.proofs.Walking.{looks_on}
use Rattle.vfs_plans.proofs.moves.moved_over.Goals as goal

pub returns-in_err-lost-clause-refused : goal.returns-in_err-lost-clause-refused
returns-in_err-lost-clause-refused g c =
    let files = present (g.B.Backing.state c.args.backing.now).tree c.args.kept.now in
    let refused = refused_so (g.B.Backing.state c.args.backing.now) (g.B.Backing.state c.lost_to.new.backing) c.in_err-lost.field-0.0
    (moved_not files c.args.now c.args.from c.args.place.parent.ino c.args.place.name c.args.over c.in_err-lost.field-0.0 (search rules)) c.in_err-lost.ensures.refused in
    search (rules, refused)

pub returns-in_err-group-clause-looks : goal.returns-in_err-group-clause-looks
returns-in_err-group-clause-looks g c = looks_on c.lost_to.ensures.looks c.move_to.ensures.looks

pub returns-clause-looks : goal.returns-clause-looks
returns-clause-looks g c = looks_on c.lost_to.ensures.looks c.move_to.ensures.looks

pub returns-clause-found : goal.returns-clause-found
returns-clause-found g c =
    let t1 = tree_on c.lost_to.ensures.looks in
    moved_over_is (present (g.B.Backing.state c.args.backing.now).tree c.args.kept.now) c.args.now c.args.from c.args.place.parent.ino c.args.place.name c.args.over c.in_ok-lost.lost c.in_ok-group.group
    (search rules) (search rules) (search rules)
