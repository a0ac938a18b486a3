-- The answers are computed.
use Rattle.std.proofs.Common.{refl}
use Rattle.fs_model.proofs.worked.open_files_are_answered.Goals as goal

pub returns-clause-over_open : goal.returns-clause-over_open
returns-clause-over_open c = refl

pub returns-clause-limits : goal.returns-clause-limits
returns-clause-limits c = refl

pub returns-clause-over_a_page : goal.returns-clause-over_a_page
returns-clause-over_a_page c = refl

pub returns-clause-holes : goal.returns-clause-holes
returns-clause-holes c = refl

pub returns-clause-cuts : goal.returns-clause-cuts
returns-clause-cuts c = refl
