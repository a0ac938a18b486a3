use Rattle.std.proofs.Common.{◌≡◌, length}
use Rattle.plain_backing.proofs.Visits.{seen_of}
use Rattle.plain_backing.proofs.tree_rows.BlockRowsIterator.next.Given as goal

-- what is passed holds no block of the inode
abbrev pub invariant-loop-key : goal.invariant-loop-key
invariant-loop-key l = (seen_of l.self-inside.ino l.self-inside.cells ≡ seen_of l.initial.self-inside.ino l.initial.self-inside.cells) × (l.self-inside.ino ≡ l.initial.self-inside.ino)

abbrev pub decreases-loop-key : goal.decreases-loop-key
decreases-loop-key l = length l.self-inside.cells
