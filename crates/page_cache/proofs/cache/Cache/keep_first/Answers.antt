use Rattle.page_cache.proofs.Putting.{apart_front, counted_front}
use Rattle.page_cache.proofs.cache.Cache.keep_first.Goals as goal

pub invariant_of-self : goal.invariant_of-self
invariant_of-self c =
    let was = c.self.invariant in
    rw c.keep_first.ensures (record {
      apart = apart_front _ _ c.args.len was.apart;
      counted = counted_front _ _ c.args.len was.counted;
    })
