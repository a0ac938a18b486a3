use Rattle.std.proofs.Common.{refl}
use Rattle.std.specs.Int.Count.{count_leading_zeros}
use Rattle.ubifs_base.specs.Properties.{fls}
use Rattle.media_lpt.proofs.laws.big_model_lengths.Goals as goal

pub returns-clause-pnode : goal.returns-clause-pnode
unfolding fls count_leading_zeros
returns-clause-pnode c = refl

pub returns-clause-nnode : goal.returns-clause-nnode
unfolding fls count_leading_zeros
returns-clause-nnode c = refl

pub returns-clause-ltab : goal.returns-clause-ltab
unfolding fls count_leading_zeros
returns-clause-ltab c = refl

pub returns-clause-lsave : goal.returns-clause-lsave
unfolding fls count_leading_zeros
returns-clause-lsave c = refl
