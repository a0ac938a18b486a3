use Rattle.std.proofs.Common.{ℕ, List, ◌≤◌, sym, ap, ◌∙◌, arith}
use Rattle.page_cache.specs.declared.dirty_page.DirtyPage.{DirtyPage}
use Rattle.page_cache.specs.Pages.{Pages, is_page, counted, put_last, with_dirty}
use Rattle.page_cache.proofs.Apart.{apart_dirty, removed_absent, was_there}
use Rattle.page_cache.proofs.Counted.{counted_dirty}
use Rattle.page_cache.proofs.cache.Cache.put_dirty.Goals as goal

pub invariant_of-self : goal.invariant_of-self
invariant_of-self c =
    let was = c.self.invariant in
    let grows : c.self.inside.calls ≤ c.saturating_add-version.result = omega arith in
    rw c.in-Ok-true.ensures.ok (record {
      apart = apart_dirty _ _ was.apart (c.args.ino, c.args.block) _ _ (ap (λ l. l.entries) c.remove.ensures.rest) c.remove.ensures.gone;
      counted = counted_dirty _ _ was.counted (c.args.ino, c.args.block) _ _ grows (omega arith);
    })

-- a page that was dirty isn't clean
pub invariant_of-self-in-Ok-false : goal.invariant_of-self-in-Ok-false
invariant_of-self-in-Ok-false c =
    let was = c.self.invariant in
    let grows : c.self.inside.calls ≤ c.saturating_add-version.result = omega arith in
    let none = was.apart c.args.ino c.args.block (was_there _ (sym c.in-Ok-false.field-0-test ∙ c.in-Ok-false.ensures.new)) in
    rw c.in-Ok-false.ensures.ok (record {
      apart = apart_dirty _ _ was.apart (c.args.ino, c.args.block) _ _ (sym (removed_absent _ _ none)) none;
      counted = counted_dirty _ _ was.counted (c.args.ino, c.args.block) _ _ grows (omega arith);
    })

pub returns-in-Ok-false-clause-ok : goal.returns-in-Ok-false-clause-ok
returns-in-Ok-false-clause-ok c =
    let inside = c.self.inside in
    let none = c.self.invariant.apart c.args.ino c.args.block (was_there _ (sym c.in-Ok-false.field-0-test ∙ c.in-Ok-false.ensures.new)) in
    let put : ℕ → Pages = λ version. record {
      dirty = put_last inside.dirty (c.args.ino, c.args.block) (record { bytes = c.args.page; version = version });
      clean = inside.clean.entries;
      most = inside.clean.cap;
      calls = version;
    } in
    ap (λ (l : List ((ℕ × ℕ) × DirtyPage)). record (put c.saturating_add-version.result) { dirty = l }) c.in-Ok-false.ensures.ok
    ∙ (ap put c.saturating_add-version.ensures
    ∙ (ap (λ es. record (put (counted inside.calls)) { clean = es }) (sym (removed_absent (is_page (c.args.ino, c.args.block)) inside.clean.entries none))
    ∙ ap (λ (held : Pages). with_dirty held c.args.ino c.args.block c.args.page) c.self.view_is))
