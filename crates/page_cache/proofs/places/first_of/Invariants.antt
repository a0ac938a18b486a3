use Rattle.std.proofs.Common.{◌≡◌, slice_get}
use Rattle.std.specs.VecDeque.Iter.{deque_iter_rest}
use Rattle.page_cache.specs.Queue.{pages_by_place}
use Rattle.page_cache.specs.Pages.{pages_of}
use Rattle.page_cache.proofs.places.first_of.Given as goal

-- the first of what is left is the first of all
abbrev pub invariant-loop-place : goal.invariant-loop-place
invariant-loop-place l = slice_get (pages_of (pages_by_place l.pages.entries (deque_iter_rest l.place-iterator)) l.ino) 0 ≡ slice_get (pages_of (pages_by_place l.pages.entries l.places.items) l.ino) 0
