use Rattle.store_model.proofs.BackingPuts.{group_put, page_put, put_leaves}
use Rattle.store_model.proofs.backing.a_put_is_a_backings.Goals as goal

pub returns-clause-group : goal.returns-clause-group
returns-clause-group c = λ m p part outside pays one. group_put m p part outside pays one

pub returns-clause-page : goal.returns-clause-page
returns-clause-page c = λ m p page outside can pays is. page_put m p page outside can.paid pays is

pub returns-clause-cut : goal.returns-clause-cut
returns-clause-cut c = λ m p can a. put_leaves m p can.parts a
