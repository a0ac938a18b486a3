use Rattle.std.proofs.Common.{◌≡◌}
use Rattle.plain_backing.specs.Cells.{seen_cells}
use Rattle.plain_backing.proofs.block_walk.sweep_blocks.Given as goal

abbrev pub invariant-loop-cell : goal.invariant-loop-cell
invariant-loop-cell l = (goal.iterator-loop-cell).can_next l.walk × (l.walk.map.ghost_name ≡ l.initial.walk.map.ghost_name) × (seen_cells l.walk.map.now.entries ≡ seen_cells l.fn.map.entries)
