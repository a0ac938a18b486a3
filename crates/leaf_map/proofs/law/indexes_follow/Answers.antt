use Rattle.leaf_map.specs.Kept.{kept_at}
use Rattle.leaf_map.proofs.Changes.{set_rank}
use Rattle.leaf_map.proofs.Follows.{change_follows, name_follows}
use Rattle.leaf_map.proofs.Forgets.{orphan_map}
use Rattle.leaf_map.proofs.Ranges.{cut_follows, inode_follows, orphan_follows}
use Rattle.leaf_map.proofs.law.indexes_follow.Goals as goal

pub returns-clause-set : goal.returns-clause-set
returns-clause-set c change new kept set busy leaf carries is d = change_follows change (kept_at new) kept set busy (set_rank change new leaf carries set) is d

pub returns-clause-dropped : goal.returns-clause-dropped
returns-clause-dropped c dir name new kept is d = name_follows dir name kept is d

pub returns-clause-cut : goal.returns-clause-cut
returns-clause-cut c ino old_size new_size new kept is = cut_follows ino old_size new_size kept is.keyed

pub returns-clause-inode : goal.returns-clause-inode
returns-clause-inode c ino new kept is = inode_follows ino kept is.keyed

pub returns-clause-orphan : goal.returns-clause-orphan
returns-clause-orphan c ino kept is = orphan_follows ino kept is.keyed

pub returns-clause-left : goal.returns-clause-left
returns-clause-left c ino kept is = orphan_map kept ino is
