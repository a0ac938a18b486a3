use Rattle.std.proofs.Common.{◌≡◌, List, OnOk, OnErr, Result, Ok, Err, ℕ, sym, ◌∙◌, subst}
use Rattle.lru.specs.LruCache.{LruCache, lru_cache, put_entries}
use Rattle.page_cache.specs.declared.dirty_page.DirtyPage.{DirtyPage}
use Rattle.page_cache.specs.Pages.{is_page, AreApart}
use Rattle.page_cache.proofs.Apart.{apart_clean}
use Rattle.page_cache.proofs.cache.Cache.put_clean.Goals as goal

-- whether or not there was memory
either : {E : Type 0} (dirty : List ((ℕ × ℕ) × DirtyPage)) (old new put : LruCache (ℕ × ℕ) (List ℕ)) (r : Result (Unit {0}) E)
    → OnOk r (new ≡ put) → OnErr r (new ≡ old) → AreApart dirty old.entries → AreApart dirty put.entries → AreApart dirty new.entries
either dirty old new put (Ok u) ok err was is = subst (λ l. AreApart dirty l.entries) (sym ok) is
either dirty old new put (Err e) ok err was is = subst (λ l. AreApart dirty l.entries) (sym err) was

pub invariant_of-self : goal.invariant_of-self
invariant_of-self c =
    let was = c.self.invariant in
    let dirty = c.self.inside.dirty in
    let old = c.self.inside.clean in
    let name : ℕ × ℕ = (c.args.ino, c.args.block) in
    let put = lru_cache (put_entries is_page old name c.args.page) old.cap in
    let is = apart_clean dirty old.entries was.apart name old.cap c.args.page (sym c.contains.ensures ∙ c.if-contains.false) in
    record {
      apart = either dirty old c.put_first.new.self put c.put_first.result c.put_first.ensures.ok c.put_first.ensures.err was.apart is;
      counted = was.counted;
    }
