use Rattle.store_model.proofs.LegalPut.{legal}
use Rattle.store_model.proofs.LegalRuns.{legal_collection, legal_commit}
use Rattle.store_model.proofs.worked.worked_runs_are_legal.Goals as goal

pub returns-clause-put : goal.returns-clause-put
returns-clause-put c = legal

pub returns-clause-commit : goal.returns-clause-commit
returns-clause-commit c = legal_commit

pub returns-clause-collection : goal.returns-clause-collection
returns-clause-collection c = legal_collection
