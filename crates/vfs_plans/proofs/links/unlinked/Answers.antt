use Rattle.std.proofs.Common.{rules}
use Rattle.buffered_files.specs.Present.{present}
use Rattle.vfs_plans.proofs.Plans.{tree_on}
use Rattle.vfs_plans.proofs.Removals.{unlinked_is}
use Rattle.vfs_plans.proofs.Walking.{looks_on}
use Rattle.vfs_plans.proofs.links.unlinked.Goals as goal

pub returns-in_err-inode-clause-looks : goal.returns-in_err-inode-clause-looks
returns-in_err-inode-clause-looks g c = looks_on c.walked.ensures.looks c.inode.ensures.looks

pub returns-in_err-group-in-Some-clause-looks : goal.returns-in_err-group-in-Some-clause-looks
returns-in_err-group-in-Some-clause-looks g c = looks_on (looks_on c.walked.ensures.looks c.inode.ensures.looks) c.removal.ensures.looks

pub returns-in_ok-group-in-Some-clause-looks : goal.returns-in_ok-group-in-Some-clause-looks
returns-in_ok-group-in-Some-clause-looks g c = looks_on (looks_on c.walked.ensures.looks c.inode.ensures.looks) c.removal.ensures.looks

pub returns-in-None-clause-looks : goal.returns-in-None-clause-looks
returns-in-None-clause-looks g c = looks_on c.walked.ensures.looks c.inode.ensures.looks

pub returns-in_ok-group-in-Some-clause-found : goal.returns-in_ok-group-in-Some-clause-found
returns-in_ok-group-in-Some-clause-found g c =
    let t1 = tree_on c.walked.ensures.looks in
    let t2 = tree_on (looks_on c.walked.ensures.looks c.inode.ensures.looks) in
    unlinked_is (present (g.B.Backing.state c.args.backing.now).tree c.args.kept.now) c.args.now c.args.path.now c.in_ok-at.at c.in-Some.inode c.in_ok-group-in-Some.group
    (search rules) (search rules) (search rules) (search rules) (search rules) (search rules)
