use Rattle.std.proofs.Common.{◌≡◌, ◌++◌, length}
use Rattle.index_check.specs.IndexWalk.{waiting_in, wanted_below}
use Rattle.index_check.proofs.wanted.push_children.Given as goal

-- what is left, in front of what was pushed, is the whole
abbrev pub invariant-pushing : goal.invariant-pushing
invariant-pushing l = wanted_below l.level l.bound l.left ++ waiting_in l.waiting.items ≡ wanted_below l.level l.fn.most l.branches ++ waiting_in l.fn.waiting.items

abbrev pub decreases-pushing : goal.decreases-pushing
decreases-pushing l = length l.left
