use Rattle.leaf_map.proofs.Bytes.{bytes_after}
use Rattle.leaf_map.proofs.Changes.{set_rank}
use Rattle.leaf_map.specs.Kept.{kept_at}
use Rattle.leaf_map.proofs.law.bytes_of_leaves_add_up.Goals as goal

pub returns : goal.returns
returns c change new kept leaf carries is = bytes_after change (kept_at new) kept (set_rank change new leaf carries) is
