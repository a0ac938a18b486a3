use Rattle.std.proofs.Common.{◌≡◌, ◌++◌, map}
use Rattle.std.specs.VecDeque.Iter.{deque_iter_rest}
use Rattle.page_cache.specs.Queue.{pages_by_place}
use Rattle.page_cache.specs.Pages.{pages_of, ticket_of}
use Rattle.page_cache.proofs.places.tickets_of.Given as goal

-- those of the places that are left complete them
abbrev pub invariant-loop-place : goal.invariant-loop-place
invariant-loop-place l = l.tickets.items ++ map ticket_of (pages_of (pages_by_place l.pages.entries (deque_iter_rest l.place-iterator)) l.ino) ≡ map ticket_of (pages_of (pages_by_place l.pages.entries l.places.items) l.ino)
