use Rattle.space_sums.proofs.Full.{spare_lebs, settled_with_three}
use Rattle.space_sums.proofs.pigeonhole.a_packed_store_has_spare_lebs.Goals as goal

pub returns-clause-spare : goal.returns-clause-spare
returns-clause-spare c = spare_lebs

pub returns-clause-settled : goal.returns-clause-settled
returns-clause-settled c = settled_with_three
