use Rattle.std.proofs.Common.{◌≡◌, drop}
use Rattle.leaf_recovery.specs.Named.{is_named_told}
use Rattle.leaf_recovery.proofs.named.is_named.Given as goal

abbrev pub invariant-loop-reference : goal.invariant-loop-reference
invariant-loop-reference l = is_named_told (drop l.reference-index l.references) l.lnum ≡ is_named_told l.references l.lnum
