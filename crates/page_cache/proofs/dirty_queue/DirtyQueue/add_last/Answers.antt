use Rattle.std.proofs.Common.{◌≡◌, ◌+◌, ◌++◌, ◌∷◌, [], IsNone, refl, sym, ap, subst, ◌∙◌, length, length-append, arith}
use Rattle.std.specs.Map.{lookup}
use Rattle.page_cache.specs.declared.place.Place.{Place}
use Rattle.page_cache.specs.Queue.{pages_by_place, IsQueue}
use Rattle.page_cache.specs.Pages.{is_page}
use Rattle.page_cache.proofs.Queue.{none_of, queue_added, with_added}
use Rattle.page_cache.proofs.dirty_queue.DirtyQueue.add_last.Goals as goal

pub invariant_of-self-2 : goal.invariant_of-self-2
invariant_of-self-2 c =
    let next : c.in-Some.next ≡ c.self.inside.next + 1 = omega (arith, c.in-Some.ensures) in
    let none = none_of _ (subst (λ l. IsNone (lookup (is_page c.args.name) l)) (sym c.self.view_is) c.requires) in
    let pages = c.add_page.new.pages.entries in
    let place : Place = record { name = c.args.name; number = c.self.inside.next } in
    let was = c.self.invariant in
    let added = queue_added _ _ _ was.ordered place c.args.page pages refl none c.in_ok-add_page.ensures.pages in
    let order = with_added _ _ _ was.ordered place c.args.page pages refl none c.in_ok-add_page.ensures.pages in
    let places = c.self.inside.places.items in
    let before = pages_by_place c.self.inside.pages.entries places in
    let all : IsQueue pages (places ++ place ∷ []) (c.self.inside.next + 1) = record {
      ordered = added;
      few = omega (arith, was.few, ap length order, length-append places (place ∷ []), length-append before ((c.args.name, c.args.page) ∷ []));
    } in
    subst (λ places. IsQueue pages places c.in-Some.next) (sym c.in_ok-add_page.ensures.places) (subst (IsQueue pages (places ++ place ∷ [])) (sym next) all)

pub returns-clause-ok : goal.returns-clause-ok
returns-clause-ok c =
    let none = none_of _ (subst (λ l. IsNone (lookup (is_page c.args.name) l)) (sym c.self.view_is) c.requires) in
    ap (pages_by_place c.add_page.new.pages.entries) c.in_ok-add_page.ensures.places
    ∙ (with_added _ _ _ c.self.invariant.ordered _ c.args.page _ refl none c.in_ok-add_page.ensures.pages
    ∙ ap (λ l. l ++ (c.args.name, c.args.page) ∷ []) c.self.view_is)
