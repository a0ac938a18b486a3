use Rattle.std.proofs.Common.{◌≡◌, drop}
use Rattle.leaf_recovery.specs.Named.{in_bud_told}
use Rattle.leaf_recovery.proofs.named.in_bud.Given as goal

abbrev pub invariant-loop-reference : goal.invariant-loop-reference
invariant-loop-reference l = in_bud_told (drop l.reference-index l.references) l.leaf ≡ in_bud_told l.references l.leaf
