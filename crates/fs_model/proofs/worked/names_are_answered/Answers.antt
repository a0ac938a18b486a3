-- The answers are computed.
use Rattle.std.proofs.Common.{refl}
use Rattle.ubifs_base.specs.R5.{r5_of}
use Rattle.fs_model.proofs.worked.names_are_answered.Goals as goal

pub returns-clause-one_hash : goal.returns-clause-one_hash
unfolding r5_of
returns-clause-one_hash c = refl

pub returns-clause-long_names : goal.returns-clause-long_names
returns-clause-long_names c = refl

pub returns-clause-refusals : goal.returns-clause-refusals
returns-clause-refusals c = refl

pub returns-clause-changes : goal.returns-clause-changes
returns-clause-changes c = refl

pub returns-clause-links : goal.returns-clause-links
returns-clause-links c = refl

pub returns-clause-orphans : goal.returns-clause-orphans
returns-clause-orphans c = refl
