use Rattle.store_model.proofs.PutSums.{by_credit, by_grant}
use Rattle.store_model.proofs.law.a_put_spends_what_was_granted.Goals as goal

pub returns-clause-page : goal.returns-clause-page
returns-clause-page c = λ m p can has pays.
    let law = c.a_change_of_leaves_is_one_of_the_tree.ensures in
    by_credit c.bytes_of_leaves_add_up.ensures law.kept m p.parts p.index p.payment can.parts has.leaves can.paid pays

pub returns-clause-group : goal.returns-clause-group
returns-clause-group c = λ m p grant can has pays given.
    let law = c.a_change_of_leaves_is_one_of_the_tree.ensures in
    by_grant c.bytes_of_leaves_add_up.ensures law.kept m p.parts p.index grant p.payment can.parts has.leaves can.paid pays given
