use Rattle.vfs_plans.proofs.Walking.{looks_on}
use Rattle.vfs_plans.proofs.links.linkable.Goals as goal

pub returns-in_err-inode-clause-looks : goal.returns-in_err-inode-clause-looks
returns-in_err-inode-clause-looks g c = looks_on c.walked.ensures.looks c.inode.ensures.looks

pub returns-in_default-clause-looks : goal.returns-in_default-clause-looks
returns-in_default-clause-looks g c = looks_on c.walked.ensures.looks c.inode.ensures.looks

pub returns-then-is_linked_out-clause-looks : goal.returns-then-is_linked_out-clause-looks
returns-then-is_linked_out-clause-looks g c = looks_on c.walked.ensures.looks c.inode.ensures.looks

pub returns-clause-looks : goal.returns-clause-looks
returns-clause-looks g c = looks_on c.walked.ensures.looks c.inode.ensures.looks
