use Rattle.index_media.proofs.Lens.{node_len}
use Rattle.index_media.proofs.Taken.{node_number, most_taken}
use Rattle.index_media.proofs.law.an_index_takes_the_bytes_of_its_nodes.Goals as goal

pub returns : goal.returns
returns c = record { len = node_len; number = node_number; most = most_taken }
