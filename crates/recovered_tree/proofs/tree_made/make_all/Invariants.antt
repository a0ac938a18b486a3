use Rattle.std.proofs.Common.{◌≡◌, length}
use Rattle.std.specs.Prelude.{reverse}
use Rattle.fs_model.specs.Change.{apply}
use Rattle.recovered_tree.proofs.tree_made.make_all.Given as goal

-- the changes that are made make, with those that are left, what all make
abbrev pub invariant-loop-change : goal.invariant-loop-change
invariant-loop-change l = apply l.tree (reverse l.changes.items) ≡ apply l.fn.tree (reverse l.fn.changes.items)

abbrev pub decreases-loop-change : goal.decreases-loop-change
decreases-loop-change l = length l.changes.items
