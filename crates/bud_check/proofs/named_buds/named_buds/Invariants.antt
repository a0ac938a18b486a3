use Rattle.std.proofs.Common.{◌≡◌, fold, length}
use Rattle.bud_log.specs.Buds.{buds_of, named_also}
use Rattle.bud_check.proofs.named_buds.named_buds.Given as goal

-- those that are named so far, and by the references that are left, are all
abbrev pub invariant-naming : goal.invariant-naming
invariant-naming l = fold named_also l.buds.items l.left ≡ buds_of l.references

abbrev pub decreases-naming : goal.decreases-naming
decreases-naming l = length l.left
