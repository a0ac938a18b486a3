use Rattle.std.proofs.Common.{◌-◌, length}
use Rattle.buffered_files.proofs.Reading.{ReadSoFar}
use Rattle.buffered_files.proofs.reads.bytes.Given as goal

-- the first bytes are read
abbrev pub invariant-loop-alloc : goal.invariant-loop-alloc
invariant-loop-alloc g l = ReadSoFar (g.B.Backing.outlook l.fn.backing) (g.B.Backing.outlook l.backing) (g.B.Backing.state l.fn.backing) (g.B.Backing.state l.backing) l.fn.kept l.kept l.ino l.offs l.n l.place l.out.items

abbrev pub decreases-loop-alloc : goal.decreases-loop-alloc
decreases-loop-alloc g l = l.n - length l.out.items
