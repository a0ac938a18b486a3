use Rattle.std.proofs.Common.{◌≡◌}
use Rattle.std.specs.List.{list_any}
use Rattle.std.specs.VecDeque.Iter.{deque_iter_rest}
use Rattle.page_cache.specs.Pages.{is_cut}
use Rattle.page_cache.proofs.dirty_queue.is_any_within.Given as goal

-- whether one is among those that are left
abbrev pub invariant-loop-place : goal.invariant-loop-place
invariant-loop-place l = list_any (λ place. is_cut l.ino l.from place.name) (deque_iter_rest l.place-iterator) ≡ list_any (λ place. is_cut l.ino l.from place.name) l.places.items
