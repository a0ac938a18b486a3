use Rattle.page_cache.specs.Pages.{old_pages}
use Rattle.page_cache.proofs.Putting.{new_are_new, old_are_dirty, dirty_after}
use Rattle.page_cache.proofs.cache.Cache.put_all.Goals as goal

pub put_new-requires : goal.put_new-requires
put_new-requires c = rw c.in_ok-new.ensures.new (new_are_new c.args.self.now c.args.ino c.args.pages.items)

pub put_old-requires : goal.put_old-requires
put_old-requires c =
    rw (c.in_ok-put_new.ensures.ok, c.in_ok-new.ensures.old)
    (dirty_after c.in_ok-new.new.items c.args.self.now c.args.ino (old_pages c.args.self.now c.args.ino c.args.pages.items) (old_are_dirty c.args.self.now c.args.ino c.args.pages.items))
