use Rattle.std.proofs.Common.{◌≡◌, ap, sym, ◌∙◌, is_some, not, slice_index_or}
use Rattle.page_cache.specs.Queue.{page_placed}
use Rattle.page_cache.proofs.places.is_front_left.Goals as goal

pub returns-in-Some-clause-left : goal.returns-in-Some-clause-left
returns-in-Some-clause-left c left first rest is =
    let place = c.in-Some.place.now in
    let same : place ≡ first = c.in-Some.ensures.lookup ∙ ap (λ l. slice_index_or l 0 place) is in
    ap (λ p. is_some (page_placed c.args.pages.now.entries p)) (sym same) ∙ (sym c.page_placed.ensures.there ∙ (c.is_none.ensures ∙ ap not left))
