use Rattle.std.proofs.Common.{◌≡◌, slice_get}
use Rattle.std.specs.VecDeque.Iter.{deque_iter_rest}
use Rattle.page_cache.specs.Queue.{pages_by_place}
use Rattle.page_cache.proofs.places.first.Given as goal

-- the first of what is left is the first of all
abbrev pub invariant-loop-place : goal.invariant-loop-place
invariant-loop-place l = slice_get (pages_by_place l.pages.entries (deque_iter_rest l.place-iterator)) 0 ≡ slice_get (pages_by_place l.pages.entries l.places.items) 0
