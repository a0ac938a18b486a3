use Rattle.std.proofs.Common.{◌≡◌, List, ℕ, sym, subst}
use Rattle.page_cache.specs.Pages.{Pages, with_dirty}
use Rattle.page_cache.proofs.Putting.{Setting, setting_more, when_ok}
use Rattle.page_cache.proofs.cache.Cache.put_old.Goals as goal

pub loop-block-preserved : goal.loop-block-preserved
loop-block-preserved c =
    let old = c.args.self.now in
    let rest = c.next.new.self.rest.items in
    let Q : List (ℕ × List ℕ) → Type 0 = λ left. Setting old c.loop-block.self c.args.ino left c.args.pages.items in
    let so = subst Q c.in-Some.ensures.steps.0 c.loop-block.invariant in
    let P : Pages → Type 0 = λ now. Setting old now c.args.ino rest c.args.pages.items in
    let done = when_ok c.put_dirty.result (c.put_dirty.new.self ≡ with_dirty c.loop-block.self c.args.ino c.in-Some.block c.in-Some.bytes) (c.put_dirty.ensures.succeeds so.dirty.0) c.put_dirty.ensures.ok in
    subst P (sym done) (setting_more old c.loop-block.self c.args.ino c.in-Some.block c.in-Some.bytes rest c.args.pages.items so)
