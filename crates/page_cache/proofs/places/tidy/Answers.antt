use Rattle.std.proofs.Common.{ap, ◌∙◌, arith}
use Rattle.page_cache.specs.Queue.{pages_by_place}
use Rattle.page_cache.proofs.Order.{order_swept}
use Rattle.page_cache.proofs.Queue.{queue_swept, queue_trimmed}
use Rattle.page_cache.proofs.places.tidy.Goals as goal

pub returns-then-len-clause-order : goal.returns-then-len-clause-order
returns-then-len-clause-order c =
    let pages = c.args.pages.now.entries in
    ap (pages_by_place pages) c.sweep.ensures ∙ (order_swept pages c.trim.new.places.items ∙ c.trim.ensures.order)

pub returns-then-len-clause-queue : goal.returns-then-len-clause-queue
returns-then-len-clause-queue c = λ next was. queue_swept _ _ _ (record { order = c.trim.ensures.order; below = c.trim.ensures.below }) next was _ c.sweep.ensures

pub returns-else-len-clause-queue : goal.returns-else-len-clause-queue
returns-else-len-clause-queue c = λ next was. queue_trimmed _ _ _ (record { order = c.trim.ensures.order; below = c.trim.ensures.below }) next was c.len-2.ensures.unique (omega arith)
