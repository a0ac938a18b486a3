use Rattle.space_sums.proofs.Keeps.{covered_by_cut, settled_by_cut, no_cause_of_covered}
use Rattle.space_sums.proofs.law.a_cut_keeps_what_was_granted.Goals as goal

pub returns-clause-covered : goal.returns-clause-covered
returns-clause-covered c = covered_by_cut

pub returns-clause-settled : goal.returns-clause-settled
returns-clause-settled c = settled_by_cut

pub returns-clause-writable : goal.returns-clause-writable
returns-clause-writable c geo old new taken cut h s = no_cause_of_covered geo new (covered_by_cut geo old new taken cut h) (settled_by_cut geo old new taken cut s)
