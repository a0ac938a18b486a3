use Rattle.std.proofs.Common.{◌≡◌, sym, subst}
use Rattle.buffered_files.specs.Present.{present}
use Rattle.fs_model.specs.Files.{inode_at}
use Rattle.vfs_plans.proofs.Plans.{tree_on}
use Rattle.vfs_plans.proofs.Walking.{looks_on}
use Rattle.vfs_plans.proofs.moves.move_to.Goals as goal

pub returns-in_err-inode-clause-looks : goal.returns-in_err-inode-clause-looks
returns-in_err-inode-clause-looks g c = looks_on c.inode.ensures.looks c.inode-2.ensures.looks

pub returns-in_err-group-clause-looks : goal.returns-in_err-group-clause-looks
returns-in_err-group-clause-looks g c = looks_on c.inode.ensures.looks c.inode-2.ensures.looks

pub returns-clause-looks : goal.returns-clause-looks
returns-clause-looks g c = looks_on c.inode.ensures.looks c.inode-2.ensures.looks

pub returns-clause-found : goal.returns-clause-found
returns-clause-found g c =
    let made = rw c.in_ok-group.ensures.ok at c.moving.ensures in
    let there = subst (λ t. c.in_ok-inode.field-0 ≡ inode_at (present t c.args.kept.now).tree c.args.place.parent.ino) (tree_on c.inode.ensures.looks) c.in_ok-inode.ensures.found in
    made (present (g.B.Backing.state c.args.backing.now).tree c.args.kept.now) (record { old_is = sym c.in_ok-left.ensures.found; new_is = λ apart. sym there })
