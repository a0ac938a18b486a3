use Rattle.std.proofs.Common.{◌≡◌, drop}
use Rattle.std.specs.Prelude.{fold}
use Rattle.leaf_recovery.specs.Applied.{without_orphan_told}
use Rattle.leaf_recovery.proofs.orphans.drop_listed.Given as goal

abbrev pub invariant-loop-ino : goal.invariant-loop-ino
invariant-loop-ino l = fold without_orphan_told l.kept.items (drop l.ino-index l.listed) ≡ fold without_orphan_told l.fn.kept.items l.listed
