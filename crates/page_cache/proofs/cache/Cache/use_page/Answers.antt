use Rattle.page_cache.proofs.Apart.{apart_used}
use Rattle.page_cache.proofs.cache.Cache.use_page.Goals as goal

pub invariant_of-self : goal.invariant_of-self
invariant_of-self c =
    let was = c.self.invariant in
    rw c.promote.ensures.list (record {
      apart = apart_used _ _ was.apart (c.args.ino, c.args.block);
      counted = was.counted;
    })
