use Rattle.page_cache.proofs.Putting.{Setting}
use Rattle.page_cache.proofs.cache.Cache.put_old.Given as goal

abbrev pub invariant-loop-block : goal.invariant-loop-block
invariant-loop-block l = Setting l.fn.self l.self l.ino l.block-iterator.rest.items l.fn.pages.items
