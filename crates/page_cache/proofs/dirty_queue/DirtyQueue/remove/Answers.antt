use Rattle.std.proofs.Common.{cond, sym, ap, ◌∙◌}
use Rattle.std.specs.Map.{remove_entry}
use Rattle.page_cache.specs.Pages.{is_page}
use Rattle.page_cache.proofs.Order.{order_without}
use Rattle.page_cache.proofs.Queue.{gone_now, queue_tidied, queue_without}
use Rattle.page_cache.proofs.dirty_queue.DirtyQueue.remove.Goals as goal

pub invariant_of-self : goal.invariant_of-self
invariant_of-self c =
    let gone = c.take_page-current.ensures.gone c.if-current.true in
    let was = queue_without _ _ _ c.self.invariant.ordered c.args.name c.take_page-current.new.pages.entries gone in
    let left = c.leave_front.ensures in
    c.tidy.ensures.queue _ (queue_tidied _ _ _ was c.leave_front.new.places.items (left.order c.take_page-current.new.pages.entries (gone_now _ _ c.args.name gone)) (left.below _ was.below))

pub returns-then-current-clause-rest : goal.returns-then-current-clause-rest
returns-then-current-clause-rest c =
    let now = c.args.self.now in
    let gone = c.take_page-current.ensures.gone c.if-current.true in
    c.tidy.ensures.order
    ∙ (c.leave_front.ensures.order c.take_page-current.new.pages.entries (gone_now _ _ c.args.name gone)
    ∙ (order_without _ _ c.args.name gone _ c.self.invariant.ordered.once
    ∙ (ap (remove_entry (is_page c.args.name)) c.self.view_is ∙ ap (λ b. cond b (remove_entry (is_page c.args.name) now) now) (sym c.if-current.true))))
