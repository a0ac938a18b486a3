use Rattle.std.proofs.Common.{◌≡◌, Some, sym, ◌∙◌, arith}
use Rattle.page_cache.specs.Pages.{next_of}
use Rattle.page_cache.specs.PageLaws.{next_is_current, next_leaves_fewer}
use Rattle.file_tests.proofs.page_cache_tests.clean_all.Goals as goal

pub loop-ticket-smaller : goal.loop-ticket-smaller
loop-ticket-smaller c =
    let old = c.loop-ticket.cache in
    let ticket = c.in-Some.ticket in
    let next : next_of old c.args.ino ≡ Some ticket = sym c.in-Some.ensures in
    let cache = c.dirty-dirty.ensures.cache in
    let told = c.mark_clean.ensures.current ∙ next_is_current old c.args.ino ticket cache next in
    rw (c.mark_clean.ensures.pages, told) (omega (arith, next_leaves_fewer old c.args.ino ticket cache next))
