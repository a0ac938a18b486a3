use Rattle.std.proofs.Common.{◌≡◌, length}
use Rattle.tree_check.specs.KeyOrder.{shown_rank}
use Rattle.tree_check.proofs.GoingUp.{IsFollowed}
use Rattle.tree_check.proofs.key_order.do_follow.Given as goal

-- so far the leaves go up, and the last of them has this place in the order
abbrev pub invariant-going : goal.invariant-going
invariant-going l = IsFollowed l.fn.first l.fn.behind l.last l.left × (l.place ≡ shown_rank l.last.shown)

abbrev pub decreases-going : goal.decreases-going
decreases-going l = length l.left
