use Rattle.store_model.proofs.law.a_put_leaves_room_for_a_commit.Goals as goal

pub returns-clause-put : goal.returns-clause-put
returns-clause-put c = λ m p can. can.settled

pub returns-clause-open : goal.returns-clause-open
returns-clause-open c = λ m head lnum can. can.settled
