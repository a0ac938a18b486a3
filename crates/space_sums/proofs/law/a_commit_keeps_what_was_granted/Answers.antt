use Rattle.std.proofs.Common.{◌+◌, arith}
use Rattle.space_sums.proofs.Admitted.{has_room_after_commit}
use Rattle.space_sums.proofs.Index.{index_room-anew}
use Rattle.space_sums.proofs.Keeps.{covered_by_commit, settled_by_commit}
use Rattle.space_sums.proofs.law.a_commit_keeps_what_was_granted.Goals as goal

pub returns-clause-index : goal.returns-clause-index
returns-clause-index c geo i w j v more p q = index_room-anew geo i w j (v + more) (w + more) q (omega arith) (omega (arith, p))

pub returns-clause-room : goal.returns-clause-room
returns-clause-room c = has_room_after_commit

pub returns-clause-covered : goal.returns-clause-covered
returns-clause-covered c = covered_by_commit

pub returns-clause-settled : goal.returns-clause-settled
returns-clause-settled c = settled_by_commit
