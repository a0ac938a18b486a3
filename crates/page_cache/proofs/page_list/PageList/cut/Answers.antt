use Rattle.std.proofs.Common.{◌≡◌, false, sym, ap, arith}
use Rattle.std.specs.List.{list_any}
use Rattle.lru.specs.LruCache.{lru_cache}
use Rattle.page_cache.specs.Pages.{is_cut}
use Rattle.page_cache.proofs.Queue.{cut_none, none_counted}
use Rattle.page_cache.proofs.Turning.{begins, goes_on, ends}
use Rattle.page_cache.proofs.page_list.PageList.cut.Goals as goal

pub loop-left-init : goal.loop-left-init
loop-left-init g c = begins _ _ _ _ c.len-left.ensures.len c.len-left.ensures.fits

pub loop-left-preserved : goal.loop-left-preserved
loop-left-preserved g c = goes_on _ _ _ _ _ _ _ _ c.loop-left.invariant (omega arith) c.turn-gone.ensures.turned

pub returns-clause-rest : goal.returns-clause-rest
returns-clause-rest g c = (ends _ _ _ _ _ _ c.loop-left.invariant (omega arith)).0

pub returns-clause-count : goal.returns-clause-count
returns-clause-count g c = (ends _ _ _ _ _ _ c.loop-left.invariant (omega arith)).1

pub returns-then-not-is_any_within-clause-rest : goal.returns-then-not-is_any_within-clause-rest
returns-then-not-is_any_within-clause-rest g c =
    let none : list_any (λ e. is_cut c.args.ino c.args.from e.0) c.args.self.now.entries ≡ false = cc in
    ap (λ es. lru_cache es c.args.self.now.cap) (sym (cut_none c.args.self.now.entries c.args.ino c.args.from none))

pub returns-then-not-is_any_within-clause-count : goal.returns-then-not-is_any_within-clause-count
returns-then-not-is_any_within-clause-count g c =
    let none : list_any (λ e. is_cut c.args.ino c.args.from e.0) c.args.self.now.entries ≡ false = cc in
    none_counted c.args.self.now.entries c.args.ino c.args.from none
