use Rattle.page_cache.proofs.Queue.{trimmed_more, trimmed_shorter}
use Rattle.page_cache.proofs.places.trim.Goals as goal

pub loop-places-smaller : goal.loop-places-smaller
loop-places-smaller c = trimmed_shorter c.loop-places.places.items c.pop_front.new.self.items (c.is_front_left.ensures.some c.loop-places-test.true) c.pop_front.ensures.rest

pub loop-places-preserved : goal.loop-places-preserved
loop-places-preserved c =
    trimmed_more c.args.pages.now.entries c.args.places.now.items c.loop-places.places.items c.pop_front.new.self.items c.loop-places.invariant (c.is_front_left.ensures.some c.loop-places-test.true) c.pop_front.ensures.rest
    (c.is_front_left.ensures.left c.loop-places-test.true)
