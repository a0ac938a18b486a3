use Rattle.index_cache.specs.Paged.{dirty_of}
use Rattle.mounted_index.proofs.Running.{dirty_here, none_first}
use Rattle.mounted_index.proofs.mounted.MountedIndex.has_nodes_left.Goals as goal

pub returns-in-None-clause-none : goal.returns-in-None-clause-none
returns-in-None-clause-none c = λ none. dirty_here c.args.self.now.nodes c.in-InMemory.index c.in-InMemory.is (none_first c.next_dirty.result (dirty_of c.in-InMemory.index) c.next_dirty.ensures.first c.in-None.is)
