use Rattle.std.proofs.Common.{ap, ◌∙◌, length, arith}
use Rattle.std.specs.Map.{set_value}
use Rattle.std.proofs.lemmas.Map.{length-set_value}
use Rattle.page_cache.specs.Pages.{is_page}
use Rattle.page_cache.specs.Queue.{pages_by_place}
use Rattle.page_cache.proofs.Queue.{set_or_back}
use Rattle.page_cache.proofs.dirty_queue.DirtyQueue.set.Goals as goal

pub invariant_of-self : goal.invariant_of-self
invariant_of-self c =
    let was = c.self.invariant in
    let both = set_or_back _ _ _ was.ordered c.args.name c.args.page _ c.set_page.result c.set_page.ensures.set c.set_page.ensures.found c.set_page.ensures.back in
    let order = pages_by_place c.self.inside.pages.entries c.self.inside.places.items in
    record { ordered = both.0; few = omega (arith, was.few, ap length both.1, length-set_value (is_page c.args.name) order c.args.page) }

pub returns-clause-set : goal.returns-clause-set
returns-clause-set c =
    (set_or_back _ _ _ c.self.invariant.ordered c.args.name c.args.page _ c.set_page.result c.set_page.ensures.set c.set_page.ensures.found c.set_page.ensures.back).1
    ∙ ap (λ l. set_value (is_page c.args.name) l c.args.page) c.self.view_is
