use Rattle.std.proofs.Common.{◌≡◌, ◌++◌}
use Rattle.plain_backing.specs.TreeCells.{in_directory}
use Rattle.plain_backing.proofs.tree_reads.entries_in.Given as goal

-- what is listed so far and what is left are all
abbrev pub invariant-loop-key : goal.invariant-loop-key
invariant-loop-key l = l.entries.items ++ in_directory l.dir l.names ≡ in_directory l.dir l.map.entries
