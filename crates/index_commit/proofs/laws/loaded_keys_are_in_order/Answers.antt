use Rattle.index_commit.proofs.Ordered.{stored_order}
use Rattle.index_commit.proofs.laws.loaded_keys_are_in_order.Goals as goal

pub returns : goal.returns
returns c = λ contents fanout root placed stored. stored_order contents stored.levels placed stored.stored
