use Rattle.std.proofs.Common.{◌≡◌, ◌≤◌, true, false, is_some, length, sym, ◌∙◌, arith, take_all}
use Rattle.page_cache.specs.Queue.{pages_by_place, page_placed}
use Rattle.page_cache.proofs.Queue.{as_many, kept_without_place, kept_without_page}
use Rattle.page_cache.proofs.dirty_queue.DirtyQueue.keep_first.Goals as goal

pub loop-self-preserved-then-is_some : goal.loop-self-preserved-then-is_some
loop-self-preserved-then-is_some c =
    let there : is_some (page_placed c.loop-self.self-inside.pages.entries c.in-Some.place) ≡ true = cc in
    kept_without_page _ _ _ _ _ _ c.in-Some.place c.loop-self.invariant c.in-Some.ensures.items there _ c.swap_remove.ensures.updates.0 c.len.ensures.unique (omega (arith, c.len.ensures.len, c.loop-self-test.true))

pub loop-self-preserved : goal.loop-self-preserved
loop-self-preserved c =
    let left : is_some (page_placed c.loop-self.self-inside.pages.entries c.in-Some.place) ≡ false = cc in
    kept_without_place _ _ _ _ _ _ c.in-Some.place c.loop-self.invariant c.in-Some.ensures.items left

pub returns : goal.returns
returns c =
    let order = pages_by_place c.loop-self.self-inside.pages.entries c.loop-self.self-inside.places.items in
    let few : length order ≤ c.args.len = omega (arith, c.loop-self-test.false, c.len.ensures.len, as_many _ _ _ c.loop-self.invariant.ordered c.len.ensures.unique) in
    c.tidy.ensures.order ∙ (sym (take_all c.args.len order few) ∙ c.loop-self.invariant.front)

pub invariant_of-self-2 : goal.invariant_of-self-2
invariant_of-self-2 c = c.tidy.ensures.queue _ c.loop-self.invariant.ordered
