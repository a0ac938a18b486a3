use Rattle.std.proofs.Common.{◌≡◌}
use Rattle.plain_backing.specs.TreeCells.{tree_of_cells}
use Rattle.plain_backing.proofs.rounds.sweep_all.Given as goal

abbrev pub invariant-loop-change : goal.invariant-loop-change
invariant-loop-change l = record {
  tree : tree_of_cells l.cells ≡ tree_of_cells l.fn.cells;
  bytes : l.cells.bytes ≡ l.fn.cells.bytes;
  orphans : l.cells.orphans ≡ l.fn.cells.orphans;
}

abbrev pub invariant-loop-key : goal.invariant-loop-key
invariant-loop-key l = record {
  tree : tree_of_cells l.cells ≡ tree_of_cells l.fn.cells;
  bytes : l.cells.bytes ≡ l.fn.cells.bytes;
  orphans : l.cells.orphans ≡ l.fn.cells.orphans;
}
