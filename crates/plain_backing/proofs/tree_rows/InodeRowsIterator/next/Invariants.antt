use Rattle.std.proofs.Common.{◌≡◌, length}
use Rattle.plain_backing.specs.Cells.{seen_cells}
use Rattle.plain_backing.proofs.tree_rows.InodeRowsIterator.next.Given as goal

-- what is passed holds nothing
abbrev pub invariant-loop-ino : goal.invariant-loop-ino
invariant-loop-ino l = seen_cells l.self-inside.cells ≡ seen_cells l.initial.self-inside.cells

abbrev pub decreases-loop-ino : goal.decreases-loop-ino
decreases-loop-ino l = length l.self-inside.cells
