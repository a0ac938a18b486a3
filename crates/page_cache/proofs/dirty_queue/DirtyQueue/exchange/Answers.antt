use Rattle.std.proofs.Common.{◌==◌, false, cond, List, ℕ, ap, ◌∙◌, arith}
use Rattle.std.specs.Option.{option_map_or}
use Rattle.std.specs.Map.{lookup, set_value}
use Rattle.page_cache.specs.declared.dirty_page.DirtyPage.{DirtyPage}
use Rattle.page_cache.specs.Pages.{is_page}
use Rattle.page_cache.proofs.Queue.{exchanged}
use Rattle.page_cache.proofs.dirty_queue.DirtyQueue.exchange.Goals as goal

pub invariant_of-self : goal.invariant_of-self
invariant_of-self c =
    let was = c.self.invariant in
    let e = c.exchange_bytes.ensures in
    let now = exchanged _ _ _ was.ordered c.args.name c.args.version c.args.bytes c.exchange_bytes.new.pages.entries e.set e.kept e.none in
    record { ordered = now.ordered; few = omega (arith, was.few, now.long) }

pub returns-clause-pages : goal.returns-clause-pages
returns-clause-pages c =
    let name = c.args.name in
    let e = c.exchange_bytes.ensures in
    (exchanged _ _ _ c.self.invariant.ordered name c.args.version c.args.bytes c.exchange_bytes.new.pages.entries e.set e.kept e.none).made
    ∙ ap (λ (l : List ((ℕ × ℕ) × DirtyPage)). cond (option_map_or (λ (page : DirtyPage). page.version == c.args.version) (lookup (is_page name) l) false) (set_value (is_page name) l (record { bytes = c.args.bytes; version = c.args.version })) l) c.self.view_is
