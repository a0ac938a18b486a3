use Rattle.std.proofs.Common.{rules, sym}
use Rattle.buffered_files.specs.Present.{present}
use Rattle.vfs_plans.proofs.Plans.{lost_is, tree_on}
use Rattle.vfs_plans.proofs.Walking.{looks_on}
use Rattle.vfs_plans.proofs.moves.lost_to.Goals as goal

pub returns-in_err-inode-clause-looks : goal.returns-in_err-inode-clause-looks
returns-in_err-inode-clause-looks g c = looks_on c.is_filled.ensures.looks c.inode.ensures.looks

pub returns-in-Some-clause-looks : goal.returns-in-Some-clause-looks
returns-in-Some-clause-looks g c = looks_on c.is_filled.ensures.looks c.inode.ensures.looks

pub returns-in-None-clause-looks : goal.returns-in-None-clause-looks
returns-in-None-clause-looks g c = looks_on c.is_filled.ensures.looks c.inode.ensures.looks

pub returns-in-Some-clause-found : goal.returns-in-Some-clause-found
returns-in-Some-clause-found g c =
    let t1 = tree_on c.is_filled.ensures.looks in
    let lost = c.losing.ensures (present (g.B.Backing.state c.args.backing.now).tree c.args.kept.now) (sym c.has_open-held_open.ensures) in
    lost_is (present (g.B.Backing.state c.args.backing.now).tree c.args.kept.now) c.args.now c.args.from.now c.args.over.now c.in-Some.inode c.losing.result
    (search rules) (search rules) (search rules) (search rules) lost
