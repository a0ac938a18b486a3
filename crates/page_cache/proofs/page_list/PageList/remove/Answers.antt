use Rattle.page_cache.proofs.Apart.{absent_removed}
use Rattle.page_cache.proofs.page_list.PageList.remove.Goals as goal

pub returns-clause-gone : goal.returns-clause-gone
returns-clause-gone g c =
    rw c.pop.ensures.entries (absent_removed c.args.name c.self.inside.pages.entries c.len-len.ensures.valid.0)
