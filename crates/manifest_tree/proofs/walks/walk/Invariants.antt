use Rattle.std.proofs.Common.{◌≡◌, Ok, length}
use Rattle.fs_model.specs.Path.{reached, root_entry}
use Rattle.manifest_tree.proofs.walks.walk.Given as goal

abbrev pub invariant-walking : goal.invariant-walking
invariant-walking l = reached l.tree (Ok l.at) l.left ≡ reached l.tree (Ok root_entry) l.names

abbrev pub decreases-walking : goal.decreases-walking
decreases-walking l = length l.left
