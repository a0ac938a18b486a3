use Rattle.std.specs.List.{AllByRecursion}
use Rattle.log_replay.specs.Changes.{HasBlockKey}
use Rattle.journal_tests.proofs.samples.nodes_of.Given as goal

abbrev pub invariant-loop-row : goal.invariant-loop-row
invariant-loop-row l = AllByRecursion HasBlockKey l.nodes.items
