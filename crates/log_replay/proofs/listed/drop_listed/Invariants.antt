use Rattle.std.proofs.Common.{List, take}
use Rattle.leaf_map.specs.Kept.{Kept}
use Rattle.log_replay.specs.Changes.{IsHeavier}
use Rattle.log_replay.specs.Standing.{StandsForLeaves}
use Rattle.log_replay.specs.Told.{without_orphans}
use Rattle.log_replay.proofs.listed.drop_listed.Given as goal

abbrev pub invariant-loop-ino : goal.invariant-loop-ino
invariant-loop-ino l = record {
  stands : (kept : List Kept) → StandsForLeaves kept l.fn.standing → StandsForLeaves (without_orphans kept (take l.ino-index l.listed)) l.standing;
  weight : IsHeavier 0 l.fn.standing l.standing;
}
