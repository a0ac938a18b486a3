use Rattle.std.proofs.Common.{◌≡◌, ◌++◌, length}
use Rattle.std.specs.Prelude.{◌==◌, filter}
use Rattle.std.specs.Map.{keys_of}
use Rattle.fs_model.specs.Orphan.{nameless}
use Rattle.script_run.proofs.nameless.nameless.Given as goal

-- those that were found, and those that are still to come
abbrev pub invariant-listing : goal.invariant-listing
invariant-listing l = l.gone.items ++ keys_of (filter (λ e. e.1.nlink == 0) l.rest) ≡ nameless l.tree

abbrev pub decreases-listing : goal.decreases-listing
decreases-listing l = length l.rest
