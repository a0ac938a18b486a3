use Rattle.std.proofs.Common.{ℕ, Bool, true, false, cond, List}
use Rattle.std.specs.Map.{remove_entry}
use Rattle.lru.specs.LruCache.{LruCache}
use Rattle.page_cache.specs.declared.dirty_page.DirtyPage.{DirtyPage}
use Rattle.page_cache.specs.Pages.{is_page, IsKept}
use Rattle.page_cache.proofs.Apart.{apart_without}
use Rattle.page_cache.proofs.Counted.{counted_without}
use Rattle.page_cache.proofs.cache.Cache.mark_clean.Goals as goal

-- whether or not the page was taken out
either : (dirty : List ((ℕ × ℕ) × DirtyPage)) (clean : LruCache (ℕ × ℕ) (List ℕ)) (calls : ℕ) (name : ℕ × ℕ) (b : Bool) → IsKept dirty clean calls
    → IsKept (cond b (remove_entry (is_page name) dirty) dirty) clean calls
either dirty clean calls name true was = record { apart = apart_without _ _ was.apart name; counted = counted_without _ _ was.counted name }
either dirty clean calls name false was = was

pub invariant_of-self : goal.invariant_of-self
invariant_of-self c =
    let ticket = c.args.ticket.now in
    rw c.remove.ensures.rest (either _ _ _ (ticket.ino, ticket.block) c.remove.result c.self.invariant)
