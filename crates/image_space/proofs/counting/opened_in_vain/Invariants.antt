use Rattle.std.proofs.Common.{◌≡◌, length}
use Rattle.std.specs.List.{find, range_with_len}
use Rattle.image_space.specs.Uses.{is_vain_in}
use Rattle.image_space.proofs.Counted.{rest_of}
use Rattle.image_space.proofs.counting.opened_in_vain.Given as goal

-- the first of the rest is the first of all
abbrev pub invariant-loop-at : goal.invariant-loop-at
invariant-loop-at l = find (is_vain_in l.first l.uses) (rest_of l.first (length l.uses) l.at) ≡ find (is_vain_in l.first l.uses) (range_with_len l.first (length l.uses))
