use Rattle.store_model.proofs.LebCollections.{begin_apart, free_apart}
use Rattle.store_model.proofs.LebMoves.{move_apart}
use Rattle.store_model.proofs.lebs.a_collection_keeps_what_lebs_are_for.Goals as goal

pub returns-clause-begun : goal.returns-clause-begun
returns-clause-begun c = λ m victim can a. begin_apart m victim can.idle can.leaf_leb a

pub returns-clause-moved : goal.returns-clause-moved
returns-clause-moved c = move_apart

pub returns-clause-freed : goal.returns-clause-freed
returns-clause-freed c = λ m can a. free_apart m can a
