use Rattle.image_space.proofs.Weights.{row_weight}
use Rattle.image_space.proofs.weight_law.lengths_tell_the_weight.Goals as goal

pub returns : goal.returns
returns c = λ contents fanout root placed index. row_weight c.an_index_takes_the_bytes_of_its_nodes.ensures.len contents fanout index.levels placed index.stored
