-- The trees are computed.
use Rattle.std.proofs.Common.{refl}
use Rattle.fs_model.proofs.worked.recovery_is_told.Goals as goal

pub returns-clause-none : goal.returns-clause-none
returns-clause-none c = refl

pub returns-clause-name : goal.returns-clause-name
returns-clause-name c = refl

pub returns-clause-byte : goal.returns-clause-byte
returns-clause-byte c = refl

pub returns-clause-byte_alone : goal.returns-clause-byte_alone
returns-clause-byte_alone c = refl

pub returns-clause-orphan : goal.returns-clause-orphan
returns-clause-orphan c = refl
