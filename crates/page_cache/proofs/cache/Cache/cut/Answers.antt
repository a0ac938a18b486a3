use Rattle.page_cache.proofs.Apart.{apart_cut}
use Rattle.page_cache.proofs.Counted.{counted_cut}
use Rattle.page_cache.proofs.cache.Cache.cut.Goals as goal

pub invariant_of-self : goal.invariant_of-self
invariant_of-self c =
    let was = c.self.invariant in
    rw (c.cut-2.ensures.rest, c.cut.ensures.rest) (record {
      apart = apart_cut _ _ was.apart c.args.ino c.args.from;
      counted = counted_cut _ _ was.counted c.args.ino c.args.from;
    })
