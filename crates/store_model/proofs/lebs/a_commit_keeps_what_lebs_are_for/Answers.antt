use Rattle.std.proofs.Common.{refl}
use Rattle.store_model.proofs.LebEnds.{end_apart, offer_apart, write_apart}
use Rattle.store_model.proofs.LebStarts.{start_apart}
use Rattle.store_model.proofs.lebs.a_commit_keeps_what_lebs_are_for.Goals as goal

pub returns-clause-started : goal.returns-clause-started
returns-clause-started c = λ m taken can a. start_apart m taken can a

pub returns-clause-written : goal.returns-clause-written
returns-clause-written c = λ m a. write_apart m m.next refl a

pub returns-clause-offered : goal.returns-clause-offered
returns-clause-offered c = offer_apart

pub returns-clause-ended : goal.returns-clause-ended
returns-clause-ended c = λ m t s a. end_apart m m.next t s a
