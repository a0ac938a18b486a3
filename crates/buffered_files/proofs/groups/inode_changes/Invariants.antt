use Rattle.std.proofs.Common.{◌≡◌, take}
use Rattle.std.specs.Prelude.{filter}
use Rattle.buffered_files.specs.Follow.{is_of_inode}
use Rattle.buffered_files.proofs.groups.inode_changes.Given as goal

abbrev pub invariant-loop-change : goal.invariant-loop-change
invariant-loop-change l = l.copies.items ≡ filter is_of_inode (take l.change-index l.changes)
