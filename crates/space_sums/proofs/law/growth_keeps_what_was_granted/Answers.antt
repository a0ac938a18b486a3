use Rattle.space_sums.proofs.Keeps.{covered_by_growth, settled_by_growth, no_cause_by_growth}
use Rattle.space_sums.proofs.law.growth_keeps_what_was_granted.Goals as goal

pub returns-clause-covered : goal.returns-clause-covered
returns-clause-covered c = covered_by_growth

pub returns-clause-settled : goal.returns-clause-settled
returns-clause-settled c = settled_by_growth

pub returns-clause-writable : goal.returns-clause-writable
returns-clause-writable c = no_cause_by_growth
