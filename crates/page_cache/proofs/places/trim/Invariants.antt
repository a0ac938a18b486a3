use Rattle.std.proofs.Common.{length}
use Rattle.page_cache.proofs.Queue.{TrimmedSoFar}
use Rattle.page_cache.proofs.places.trim.Given as goal

abbrev pub invariant-loop-places : goal.invariant-loop-places
invariant-loop-places l = TrimmedSoFar l.pages.entries l.fn.places.items l.places.items

abbrev pub decreases-loop-places : goal.decreases-loop-places
decreases-loop-places l = length l.places.items
