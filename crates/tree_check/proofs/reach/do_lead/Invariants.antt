use Rattle.std.proofs.Common.{◌≡◌, length}
use Rattle.std.specs.List.{list_any}
use Rattle.tree_check.specs.Reach.{has}
use Rattle.tree_check.proofs.reach.do_lead.Given as goal

-- one of the links that are left leads from one of them if one of all does
abbrev pub invariant-going : goal.invariant-going
invariant-going l = list_any (λ link. has l.dirs link.dir) l.left ≡ list_any (λ link. has l.dirs link.dir) l.links

abbrev pub decreases-going : goal.decreases-going
decreases-going l = length l.left
