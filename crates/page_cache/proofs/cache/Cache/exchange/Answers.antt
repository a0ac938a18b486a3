use Rattle.std.proofs.Common.{◌≡◌, ◌==◌, ℕ, Bool, true, false, cond, List, refl}
use Rattle.std.specs.Map.{lookup, set_value}
use Rattle.std.specs.Option.{option_map_or}
use Rattle.lru.specs.LruCache.{LruCache}
use Rattle.page_cache.specs.declared.dirty_page.DirtyPage.{DirtyPage}
use Rattle.page_cache.specs.Pages.{is_page, IsKept}
use Rattle.page_cache.proofs.Apart.{apart_set}
use Rattle.page_cache.proofs.Counted.{counted_exchanged}
use Rattle.page_cache.proofs.cache.Cache.exchange.Goals as goal

-- whether or not the page was given other bytes
either : (dirty : List ((ℕ × ℕ) × DirtyPage)) (clean : LruCache (ℕ × ℕ) (List ℕ)) (calls : ℕ) (name : ℕ × ℕ) (page : DirtyPage) (b : Bool) → IsKept dirty clean calls
    → option_map_or (λ (old : DirtyPage). old.version == page.version) (lookup (is_page name) dirty) false ≡ b → IsKept (cond b (set_value (is_page name) dirty page) dirty) clean calls
either dirty clean calls name page true was is = record { apart = apart_set _ _ was.apart name page; counted = counted_exchanged _ _ was.counted name page is }
either dirty clean calls name page false was is = was

pub invariant_of-self : goal.invariant_of-self
invariant_of-self c =
    let ticket = c.args.ticket.now in
    rw c.exchange.ensures.pages (either _ _ _ (ticket.ino, ticket.block) (record { bytes = c.args.bytes; version = ticket.version }) _ c.self.invariant refl)
