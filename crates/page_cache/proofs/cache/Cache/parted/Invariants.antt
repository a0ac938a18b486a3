use Rattle.page_cache.proofs.Putting.{Parted}
use Rattle.page_cache.proofs.cache.Cache.parted.Given as goal

-- those that are left complete the parts
abbrev pub invariant-loop-block : goal.invariant-loop-block
invariant-loop-block l = Parted l.self l.ino l.fn.pages.items l.block-iterator.rest.items l.new.items l.old.items
