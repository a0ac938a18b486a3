use Rattle.std.proofs.Common.{◌-◌, length}
use Rattle.fs_model.proofs.Pieces.{ReadSoFar}
use Rattle.fs_model.proofs.blocks.read_pages.Given as goal

abbrev pub invariant-loop-from : goal.invariant-loop-from
invariant-loop-from l = ReadSoFar l.map.entries l.ino l.offs l.n l.place l.out.items

abbrev pub decreases-loop-from : goal.decreases-loop-from
decreases-loop-from l = l.n - length l.out.items
