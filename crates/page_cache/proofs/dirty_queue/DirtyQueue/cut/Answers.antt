use Rattle.std.proofs.Common.{◌≡◌, false, sym, subst, ap, length, ◌∙◌, arith}
use Rattle.std.specs.List.{list_any}
use Rattle.page_cache.specs.Queue.{pages_by_place, IsOrdered}
use Rattle.page_cache.specs.Pages.{is_cut, cut_list, cut_count}
use Rattle.page_cache.proofs.Queue.{cut_by_place, queue_cut, cut_counted, cut_many, cut_none, none_counted, none_by_place}
use Rattle.page_cache.proofs.dirty_queue.DirtyQueue.cut.Goals as goal

pub invariant_of-self : goal.invariant_of-self
invariant_of-self c =
    let was : IsOrdered c.cut_pages.new.pages.entries c.cut_places.new.places.items c.self.inside.next = rw (c.cut_pages.ensures, c.cut_places.ensures) (queue_cut _ _ _ c.self.invariant.ordered c.args.ino c.args.from) in
    c.tidy.ensures.queue _ was

pub overflow_sub-result : goal.overflow_sub-result
overflow_sub-result c =
    let all = cut_counted c.self.inside.pages.entries c.args.ino c.args.from in
    omega (arith, c.len.ensures.len, c.len-before.ensures.len, ap length c.cut_pages.ensures, all)

pub returns-clause-rest : goal.returns-clause-rest
returns-clause-rest c =
    c.tidy.ensures.order
    ∙ (ap (λ ps. pages_by_place ps c.cut_places.new.places.items) c.cut_pages.ensures
    ∙ (ap (pages_by_place (cut_list c.self.inside.pages.entries c.args.ino c.args.from)) c.cut_places.ensures
    ∙ (cut_by_place _ _ _ c.self.invariant.ordered c.args.ino c.args.from ∙ ap (λ l. cut_list l c.args.ino c.args.from) c.self.view_is)))

pub returns-clause-count : goal.returns-clause-count
returns-clause-count c =
    let all = cut_many _ _ _ c.self.invariant.ordered c.args.ino c.args.from c.len-before.ensures.unique in
    omega (arith, c.len.ensures.len, c.len-before.ensures.len, ap length c.cut_pages.ensures, all, ap (λ l. cut_count l c.args.ino c.args.from) c.self.view_is)

pub returns-then-not-is_any_within-clause-rest : goal.returns-then-not-is_any_within-clause-rest
returns-then-not-is_any_within-clause-rest c =
    let none : list_any (λ place. is_cut c.args.ino c.args.from place.name) c.self.inside.places.items ≡ false = cc in
    let same = cut_none _ c.args.ino c.args.from (none_by_place c.self.inside.pages.entries _ c.args.ino c.args.from none) in
    subst (λ l. l ≡ cut_list l c.args.ino c.args.from) c.self.view_is (sym same)

pub returns-then-not-is_any_within-clause-count : goal.returns-then-not-is_any_within-clause-count
returns-then-not-is_any_within-clause-count c =
    let none : list_any (λ place. is_cut c.args.ino c.args.from place.name) c.self.inside.places.items ≡ false = cc in
    subst (λ l. 0 ≡ cut_count l c.args.ino c.args.from) c.self.view_is (none_counted _ c.args.ino c.args.from (none_by_place c.self.inside.pages.entries _ c.args.ino c.args.from none))
