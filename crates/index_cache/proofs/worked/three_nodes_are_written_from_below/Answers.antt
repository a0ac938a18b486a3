use Rattle.index_cache.proofs.Hand.{first_dirty_lists, then_dirty_lists, last_tree}
use Rattle.index_cache.proofs.worked.three_nodes_are_written_from_below.Goals as goal

pub returns : goal.returns
returns c = record { first = first_dirty_lists; then = then_dirty_lists; last = last_tree }
