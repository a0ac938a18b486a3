use Rattle.std.proofs.Common.{◌≡◌, ◌++◌, filter, length}
use Rattle.tree_check.specs.Reach.{mem}
use Rattle.tree_check.proofs.reach.links_between.Given as goal

-- the links so far, with those that are kept of the links that are left, are all that are
abbrev pub invariant-keeping : goal.invariant-keeping
invariant-keeping l = l.between.items ++ filter (λ link. mem link.ino l.dirs) l.left ≡ filter (λ link. mem link.ino l.dirs) l.links

abbrev pub decreases-keeping : goal.decreases-keeping
decreases-keeping l = length l.left
