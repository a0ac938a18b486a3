use Rattle.std.proofs.Common.{length, ap, ◌∙◌}
use Rattle.page_cache.proofs.Queue.{as_many}
use Rattle.page_cache.proofs.dirty_queue.DirtyQueue.len.Goals as goal

pub returns-clause-len : goal.returns-clause-len
returns-clause-len c = c.len.ensures.len ∙ (as_many _ _ _ c.self.invariant.ordered c.len.ensures.unique ∙ ap length c.self.view_is)
