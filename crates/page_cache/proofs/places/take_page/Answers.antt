use Rattle.std.proofs.Common.{ℕ, ◌≡◌, None, IfSome, sym, subst, ◌∙◌}
use Rattle.indexmap.specs.IndexMap.{Updates}
use Rattle.page_cache.specs.PageLaws.{is_page_same}
use Rattle.page_cache.specs.Pages.{is_page}
use Rattle.page_cache.specs.Queue.{IsChangedAt}
use Rattle.page_cache.proofs.Lists.{key_passes}
use Rattle.page_cache.proofs.places.take_page.Goals as goal

pub returns-then-current-clause-gone : goal.returns-then-current-clause-gone
returns-then-current-clause-gone c current =
    let old = c.args.pages.now in
    let new = c.swap_remove_index.new.self in
    let key : ℕ × ℕ = c.in-Some.field-0-1.now in
    let all = subst (λ r. IfSome r (λ p. Updates is_page old new p.0 None)) (c.swap_remove_index.ensures.entry ∙ c.in-Some.ensures.entry) c.swap_remove_index.ensures.updates in
    let same : c.args.name ≡ key = is_page_same c.args.name key (key_passes (is_page c.args.name) old.entries key (sym c.in-Some.ensures.key)) in
    subst (λ n. IsChangedAt n None old.entries new.entries) (sym same) all.0
