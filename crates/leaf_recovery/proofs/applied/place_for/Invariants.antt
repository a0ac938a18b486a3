use Rattle.std.proofs.Common.{◌≡◌, ◌+◌, drop}
use Rattle.leaf_recovery.specs.Applied.{put_place_told}
use Rattle.leaf_recovery.proofs.applied.place_for.Given as goal

abbrev pub invariant-loop-leaf : goal.invariant-loop-leaf
invariant-loop-leaf l = record {
  place : l.place + put_place_told l.content l.new (drop l.leaf-index l.kept) ≡ put_place_told l.content l.new l.kept;
  index : l.place ≡ l.leaf-index;
}
