use Rattle.traced_files.proofs.SeenLast.{seen_behind_sync}
use Rattle.traced_files.proofs.law.a_sync_leaves_what_was_seen_last.Goals as goal

pub returns : goal.returns
returns c = seen_behind_sync
