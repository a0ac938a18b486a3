use Rattle.store_model.proofs.law.a_sync_comes_first.Goals as goal

pub returns-clause-free : goal.returns-clause-free
returns-clause-free c = λ m can. can.synced

pub returns-clause-start : goal.returns-clause-start
returns-clause-start c = λ m taken can. can.synced
