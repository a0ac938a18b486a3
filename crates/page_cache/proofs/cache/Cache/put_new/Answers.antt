use Rattle.std.proofs.Common.{List, ℕ, length, sym, ap, subst, ◌∙◌}
use Rattle.page_cache.specs.Pages.{Pages}
use Rattle.page_cache.proofs.Putting.{Adding, adding_more, kept_first}
use Rattle.page_cache.proofs.cache.Cache.put_new.Goals as goal

pub loop-block-preserved : goal.loop-block-preserved
loop-block-preserved c =
    let old = c.args.self.now in
    let rest = c.next.new.self.rest.items in
    let Q : List (ℕ × List ℕ) → Type 0 = λ left. Adding old c.loop-block.self c.args.ino left c.args.pages.items in
    let so = subst Q c.in-Some.ensures.steps.0 c.loop-block.invariant in
    let P : Pages → Type 0 = λ now. Adding old now c.args.ino rest c.args.pages.items in
    subst P (sym c.in-Ok.ensures.ok) (adding_more old c.loop-block.self c.args.ino c.in-Some.block c.in-Some.bytes rest c.args.pages.items so)

pub returns-in-Err-clause-err : goal.returns-in-Err-clause-err
returns-in-Err-clause-err c =
    kept_first c.args.self.now c.loop-block.self c.put_dirty.new.self c.keep_first.new.self c.args.ino c.len-len.result _ c.args.pages.items
    (subst (λ left. Adding c.args.self.now c.loop-block.self c.args.ino left c.args.pages.items) c.in-Some.ensures.steps.0 c.loop-block.invariant) (c.len-len.ensures.len ∙ ap (λ (p : Pages). length p.dirty) c.self.view_is) c.in-Err.ensures.err c.keep_first.ensures
