use Rattle.std.proofs.Common.{◌≡◌}
use Rattle.std.specs.Prelude.{fold}
use Rattle.fs_model.specs.Change.{without_inode}
use Rattle.fs_model.specs.Orphan.{without_nameless}
use Rattle.script_run.proofs.nameless.without_nameless.Given as goal

-- the tree once those that are left are gone
abbrev pub invariant-loop-ino : goal.invariant-loop-ino
invariant-loop-ino l = fold without_inode l.tree l.ino-iterator.rest.items ≡ without_nameless l.fn.tree
