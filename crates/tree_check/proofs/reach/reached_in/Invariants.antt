use Rattle.tree_check.proofs.Levels.{IsLevel}
use Rattle.tree_check.specs.Reach.{has}
use Rattle.tree_check.proofs.reach.reached_in.Given as goal

-- the steps so far reach this, and the last of them these first
abbrev pub invariant-loop-step : goal.invariant-loop-step
invariant-loop-step l = IsLevel l.links l.step (has l.reached) l.level.items
