use Rattle.store_model.proofs.Places.{drop_indexed, open_indexed, put_indexed, sync_indexed}
use Rattle.store_model.proofs.texts.nodes_of_the_index_stay.Goals as goal

pub returns-clause-put : goal.returns-clause-put
returns-clause-put c = λ m p can s. put_indexed m p can.parts can.index.places can.index.children s.apart s.taking s.standing.indexed

pub returns-clause-open : goal.returns-clause-open
returns-clause-open c = λ m head lnum can s. open_indexed m head lnum can.empty s.apart s.taking s.standing.indexed

pub returns-clause-sync : goal.returns-clause-sync
returns-clause-sync c = λ m s. sync_indexed m s.apart s.taking s.standing.indexed

pub returns-clause-dropped : goal.returns-clause-dropped
returns-clause-dropped c = λ m ino index can s. drop_indexed m ino index can.index_is.places can.index_is.children s.apart s.taking s.standing.indexed
