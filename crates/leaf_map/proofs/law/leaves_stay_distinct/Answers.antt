use Rattle.leaf_map.specs.Kept.{kept_at}
use Rattle.leaf_map.proofs.Distinct.{after-distinct}
use Rattle.leaf_map.proofs.law.leaves_stay_distinct.Goals as goal

pub returns : goal.returns
returns c change new kept = after-distinct change (kept_at new) kept
