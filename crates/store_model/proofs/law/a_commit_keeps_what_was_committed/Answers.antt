use Rattle.std.proofs.Common.{refl}
use Rattle.store_model.proofs.ViewCommits.{begin_views, end_views, free_views, offer_views, start_views, write_views}
use Rattle.store_model.proofs.law.a_commit_keeps_what_was_committed.Goals as goal

pub returns-clause-started : goal.returns-clause-started
returns-clause-started c = start_views

pub returns-clause-written : goal.returns-clause-written
returns-clause-written c = λ m v. write_views m m.next refl v

pub returns-clause-offered : goal.returns-clause-offered
returns-clause-offered c = offer_views

pub returns-clause-ended : goal.returns-clause-ended
returns-clause-ended c = λ m v. end_views m m.next refl v

pub returns-clause-begun : goal.returns-clause-begun
returns-clause-begun c = begin_views

pub returns-clause-freed : goal.returns-clause-freed
returns-clause-freed c = λ m v. free_views m m.moving v
