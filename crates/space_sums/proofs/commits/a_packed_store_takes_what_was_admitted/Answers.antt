use Rattle.space_sums.proofs.Full.{takes_what_was_admitted}
use Rattle.space_sums.proofs.commits.a_packed_store_takes_what_was_admitted.Goals as goal

pub returns : goal.returns
returns c = takes_what_was_admitted
