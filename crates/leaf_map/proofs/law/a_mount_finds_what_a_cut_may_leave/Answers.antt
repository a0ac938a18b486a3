use Rattle.leaf_map.proofs.Recovers.{found_allowed, found_is}
use Rattle.leaf_map.proofs.law.a_mount_finds_what_a_cut_may_leave.Goals as goal

pub returns : goal.returns
returns c = record { found = found_is; allowed = found_allowed }
