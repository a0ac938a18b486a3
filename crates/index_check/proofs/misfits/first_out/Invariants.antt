use Rattle.std.proofs.Common.{◌≡◌, length}
use Rattle.std.specs.List.{AllByRecursion, find}
use Rattle.ubifs_base.specs.Key.{IsKey}
use Rattle.sound_image.specs.IndexBreaches.{is_out}
use Rattle.index_check.specs.IndexWalk.{wanted_of}
use Rattle.index_check.proofs.misfits.first_out.Given as goal

-- the first of what is left is the first of all
abbrev pub invariant-looking : goal.invariant-looking
invariant-looking l = record {
  first : find (is_out (wanted_of l.wanted)) l.left ≡ find (is_out (wanted_of l.wanted)) l.branches;
  keys : AllByRecursion (λ branch. IsKey branch.key) l.left;
}

abbrev pub decreases-looking : goal.decreases-looking
decreases-looking l = length l.left
