use Rattle.std.proofs.Common.{length}
use Rattle.page_cache.proofs.Queue.{KeptSoFar}
use Rattle.page_cache.proofs.dirty_queue.DirtyQueue.keep_first.Given as goal

abbrev pub invariant-loop-self : goal.invariant-loop-self
invariant-loop-self l = KeptSoFar l.fn.self l.len l.self-inside.pages.entries l.self-inside.places.items l.self-inside.next

abbrev pub decreases-loop-self : goal.decreases-loop-self
decreases-loop-self l = length l.self-inside.places.items
